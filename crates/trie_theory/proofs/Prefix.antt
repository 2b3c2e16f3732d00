-- Prefixes in each dimension, as a relation that computes. What keys share is a prefix of each, and the longest one: from
-- that alone follows all that is proved of positions and parts.
use Prim.Native.Nat.{ℕ, zero, suc, ◌≤◌}
use mathlib.Core.Path.{◌≡◌, refl, sym, ◌∙◌}
use mathlib.Core.Bool.{Bool, true, false, cond, false≢true}
use mathlib.Core.List.{List, [], ◌∷◌, ◌++◌}
use native.Mathlib.Omega.{arith}
use lib.ListN.{length}
use lib.Dec.{eqb}
use borrow.Author.Tests.{eqb-true, eqb-false, eq-eqb}
use Rattle.trie_theory.specs.Forest.{Strings, Key, join}
use Rattle.buffer.specs.Lists.{All, nil, cons}
use Rattle.trie_theory.specs.Strings.{begins, all_begin, common, commons, at}
use Rattle.trie_theory.specs.Position.{narrow, shared}
use Rattle.buffer.proofs.Lists.{all_imp, all_head, all_tail}
use Rattle.buffer.proofs.Tests.{and_left, and_right, and_both}

-- s begins with p
unfoldable pub Prefix : List ℕ → List ℕ → Type 0
Prefix [] s = Unit {0}
Prefix (a ∷ p) [] = ⊥
Prefix (a ∷ p) (b ∷ s) = (a ≡ b) × Prefix p s

-- the same in each dimension
unfoldable pub Prefixes : Strings → Strings → Type 0
unfolding Prefix
Prefixes [] ss = Unit {0}
Prefixes (p ∷ ps) [] = ⊥
Prefixes (p ∷ ps) (s ∷ ss) = Prefix p s × Prefixes ps ss

-- x begins with the bytes p
abbrev pub From : Strings → Key → Type 0
From p x = Prefixes p x.strings

-- the test is right, both ways
begins_prefix : (p s : List ℕ) → begins p s ≡ true → Prefix p s
unfolding begins Prefix
begins_prefix [] s e = tt
begins_prefix (a ∷ p) [] e = absurd (false≢true e)
begins_prefix (a ∷ p) (b ∷ s) e = (eqb-true a b (and_left (eqb a b) (begins p s) e), begins_prefix p s (and_right (eqb a b) (begins p s) e))

prefix_begins : (p s : List ℕ) → Prefix p s → begins p s ≡ true
unfolding begins Prefix
prefix_begins [] s h = refl
prefix_begins (a ∷ p) [] h = absurd h
prefix_begins (a ∷ p) (b ∷ s) h = and_both (eq-eqb a b h.0) (prefix_begins p s h.1)

pub all_begin_prefixes : (p s : Strings) → all_begin p s ≡ true → Prefixes p s
unfolding all_begin Prefixes
all_begin_prefixes [] s e = tt
all_begin_prefixes (p ∷ ps) [] e = absurd (false≢true e)
all_begin_prefixes (p ∷ ps) (s ∷ ss) e =
    (begins_prefix p s (and_left (begins p s) (all_begin ps ss) e), all_begin_prefixes ps ss (and_right (begins p s) (all_begin ps ss) e))

pub prefixes_all_begin : (p s : Strings) → Prefixes p s → all_begin p s ≡ true
unfolding all_begin Prefixes
prefixes_all_begin [] s h = refl
prefixes_all_begin (p ∷ ps) [] h = absurd h
prefixes_all_begin (p ∷ ps) (s ∷ ss) h = and_both (prefix_begins p s h.0) (prefixes_all_begin ps ss h.1)

-- what is joined behind bytes leaves them a prefix
pub prefix_append : (p s : List ℕ) → Prefix p (p ++ s)
unfolding Prefix
prefix_append [] s = tt
prefix_append (a ∷ p) s = (refl, prefix_append p s)

pub prefix_refl : (s : List ℕ) → Prefix s s
unfolding Prefix
prefix_refl [] = tt
prefix_refl (a ∷ s) = (refl, prefix_refl s)

pub prefixes_refl : (s : Strings) → Prefixes s s
unfolding Prefixes
prefixes_refl [] = tt
prefixes_refl (s ∷ ss) = (prefix_refl s, prefixes_refl ss)

pub prefixes_join : (k s : Strings) → Prefixes k (join k s)
unfolding Prefixes join
prefixes_join [] s = tt
prefixes_join (k ∷ ks) [] = prefixes_refl (k ∷ ks)
prefixes_join (k ∷ ks) (s ∷ ss) = (prefix_append k s, prefixes_join ks ss)

pub prefix_trans : (p q s : List ℕ) → Prefix p q → Prefix q s → Prefix p s
unfolding Prefix
prefix_trans [] q s a b = tt
prefix_trans (x ∷ p) [] s a b = absurd a
prefix_trans (x ∷ p) (y ∷ q) [] a b = absurd b
prefix_trans (x ∷ p) (y ∷ q) (z ∷ s) a b = (a.0 ∙ b.0, prefix_trans p q s a.1 b.1)

pub prefixes_trans : (p q s : Strings) → Prefixes p q → Prefixes q s → Prefixes p s
unfolding Prefixes
prefixes_trans [] q s a b = tt
prefixes_trans (x ∷ p) [] s a b = absurd a
prefixes_trans (x ∷ p) (y ∷ q) [] a b = absurd b
prefixes_trans (x ∷ p) (y ∷ q) (z ∷ s) a b = (prefix_trans x y z a.0 b.0, prefixes_trans p q s a.1 b.1)

pub prefix_length : (p s : List ℕ) → Prefix p s → length p ≤ length s
unfolding Prefix
prefix_length [] s h = omega arith
prefix_length (a ∷ p) [] h = absurd h
prefix_length (a ∷ p) (b ∷ s) h = let r = prefix_length p s h.1 in omega arith

pub length_prefixes : (p s : Strings) → Prefixes p s → length p ≤ length s
unfolding Prefixes
length_prefixes [] s h = omega arith
length_prefixes (p ∷ ps) [] h = absurd h
length_prefixes (p ∷ ps) (s ∷ ss) h = let r = length_prefixes ps ss h.1 in omega arith

pub prefixes_at : (d : ℕ) (p s : Strings) → Prefixes p s → Prefix (at d p) (at d s)
unfolding Prefixes Prefix
prefixes_at d [] s h = tt
prefixes_at d (p ∷ ps) [] h = absurd h
prefixes_at zero (p ∷ ps) (s ∷ ss) h = h.0
prefixes_at (suc d) (p ∷ ps) (s ∷ ss) h = prefixes_at d ps ss h.1

-- what two strings begin with alike is a prefix of both, and the longest
common_left : (s t : List ℕ) → Prefix (common s t) s
unfolding Prefix common
common_left [] t = tt
common_left (a ∷ s) [] = tt
common_left (a ∷ s) (b ∷ t) = go (eqb a b) (common_left s t)
  where
    go : (w : Bool) → Prefix (common s t) s → Prefix (cond w (a ∷ common s t) []) (a ∷ s)
    go true h = (refl, h)
    go false h = tt

common_right : (s t : List ℕ) → Prefix (common s t) t
unfolding Prefix common
common_right [] t = tt
common_right (a ∷ s) [] = tt
common_right (a ∷ s) (b ∷ t) = go (eqb a b) refl (common_right s t)
  where
    go : (w : Bool) → eqb a b ≡ w → Prefix (common s t) t → Prefix (cond w (a ∷ common s t) []) (b ∷ t)
    go true e h = (eqb-true a b e, h)
    go false e h = tt

common_greatest : (p s t : List ℕ) → Prefix p s → Prefix p t → Prefix p (common s t)
unfolding Prefix common
common_greatest [] s t f g = tt
common_greatest (x ∷ p) [] t f g = absurd f
common_greatest (x ∷ p) (a ∷ s) [] f g = absurd g
common_greatest (x ∷ p) (a ∷ s) (b ∷ t) f g = go (eqb a b) refl (common_greatest p s t f.1 g.1)
  where
    go : (w : Bool) → eqb a b ≡ w → Prefix p (common s t) → Prefix (x ∷ p) (cond w (a ∷ common s t) [])
    go true e h = (f.0, h)
    go false e h = eqb-false a b e (sym f.0 ∙ g.0)

pub commons_left : (s t : Strings) → Prefixes (commons s t) s
unfolding Prefixes commons
commons_left [] t = tt
commons_left (a ∷ s) [] = tt
commons_left (a ∷ s) (b ∷ t) = (common_left a b, commons_left s t)

pub commons_right : (s t : Strings) → Prefixes (commons s t) t
unfolding Prefixes commons
commons_right [] t = tt
commons_right (a ∷ s) [] = tt
commons_right (a ∷ s) (b ∷ t) = (common_right a b, commons_right s t)

pub commons_greatest : (p s t : Strings) → Prefixes p s → Prefixes p t → Prefixes p (commons s t)
unfolding Prefixes commons
commons_greatest [] s t f g = tt
commons_greatest (x ∷ p) [] t f g = absurd f
commons_greatest (x ∷ p) (a ∷ s) [] f g = absurd g
commons_greatest (x ∷ p) (a ∷ s) (b ∷ t) f g = (common_greatest x a b f.0 g.0, commons_greatest p s t f.1 g.1)

narrow_from : (a : Strings) (xs : List Key) → Prefixes (narrow a xs) a
unfolding narrow
narrow_from a [] = prefixes_refl a
narrow_from a (x ∷ xs) = prefixes_trans _ _ _ (commons_right x.strings (narrow a xs)) (narrow_from a xs)

narrow_all : (a : Strings) (xs : List Key) → All (From (narrow a xs)) xs
unfolding narrow
narrow_all a [] = nil
narrow_all a (x ∷ xs) =
    cons (commons_left x.strings (narrow a xs))
    (all_imp (λ y h. prefixes_trans _ _ y.strings (commons_right x.strings (narrow a xs)) h) (narrow_all a xs))

narrow_greatest : (p a : Strings) {xs : List Key} → Prefixes p a → All (From p) xs → Prefixes p (narrow a xs)
unfolding narrow
narrow_greatest p a h nil = h
narrow_greatest p a h (cons {x = x} {xs = xs} f fs) = commons_greatest p x.strings (narrow a xs) f (narrow_greatest p a h fs)

-- THE SHARED BYTES begin every key ..
pub shared_all : (ks : List Key) → All (From (shared ks)) ks
unfolding shared
shared_all [] = nil
shared_all (x ∷ xs) = cons (narrow_from x.strings xs) (narrow_all x.strings xs)

-- .. and whatever begins every key begins them
pub shared_greatest : (p : Strings) {x : Key} {xs : List Key} → All (From p) (x ∷ xs) → Prefixes p (shared (x ∷ xs))
unfolding shared
shared_greatest p {x} {xs} a = narrow_greatest p x.strings (all_head a) (all_tail a)
