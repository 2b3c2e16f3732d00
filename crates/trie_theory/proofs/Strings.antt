-- Laws of strings joined and stripped: a prefix and what is left behind it are the whole, and so are their bytes, dimension by dimension.
use Prim.Native.Nat.{ℕ, zero, suc, ◌+◌, ◌≤◌, ◌<◌}
use mathlib.Core.Path.{◌≡◌, refl, sym, ap, ap₂, ◌∙◌}
use mathlib.Core.List.{List, [], ◌∷◌, ◌++◌, append_assoc, append-nil}
use native.Mathlib.Omega.{arith}
use lib.ListN.{length, drop, length-append}
use lib.Seq.{drop-append_seam}
use Rattle.trie_theory.specs.Forest.{Strings, Key, join}
use Rattle.buffer.specs.Lists.{All, nil, cons}
use Rattle.trie_theory.specs.Strings.{commons, strip, at, first, total}
use Rattle.trie_theory.specs.Position.{narrow, shared}
use Rattle.buffer.proofs.Lists.{all_head, all_tail}
use Rattle.trie_theory.proofs.Prefix.{Prefix, Prefixes, prefixes_trans}

pub join_assoc : (a b c : Strings) → join (join a b) c ≡ join a (join b c)
unfolding join
join_assoc [] b c = refl
join_assoc (a ∷ a') [] c = refl
join_assoc (a ∷ a') (b ∷ bs) [] = refl
join_assoc (a ∷ a') (b ∷ bs) (c ∷ cs) = ap₂ ◌∷◌ (append_assoc a b c) (join_assoc a' bs cs)

pub join_nil : (s : Strings) → join s [] ≡ s
unfolding join
join_nil [] = refl
join_nil (s ∷ ss) = refl

pub drop_prefix : (p s : List ℕ) → Prefix p s → p ++ drop (length p) s ≡ s
unfolding Prefix
drop_prefix [] s h = refl
drop_prefix (a ∷ p) [] h = absurd h
drop_prefix (a ∷ p) (b ∷ s) h = ap₂ ◌∷◌ h.0 (drop_prefix p s h.1)

-- a prefix and what is left behind it are the whole
pub join_strip : (p s : Strings) → Prefixes p s → join p (strip p s) ≡ s
unfolding Prefixes join strip
join_strip [] s h = refl
join_strip (p ∷ ps) [] h = absurd h
join_strip (p ∷ ps) (s ∷ ss) h = ap₂ ◌∷◌ (drop_prefix p s h.0) (join_strip ps ss h.1)

-- and what is left behind bytes is what was joined to them
pub strip_join : (p s : Strings) → length p ≡ length s → strip p (join p s) ≡ s
unfolding join strip
strip_join [] s e = refl
strip_join (p ∷ ps) [] e = absurd (omega arith)
strip_join (p ∷ ps) (s ∷ ss) e = ap₂ ◌∷◌ (drop-append_seam p s) (strip_join ps ss (omega arith))

-- numbers of strings
pub length_strip : (p s : Strings) → length (strip p s) ≡ length s
unfolding strip
length_strip [] s = refl
length_strip (p ∷ ps) [] = refl
length_strip (p ∷ ps) (s ∷ ss) = ap suc (length_strip ps ss)

pub length_join : (a b : Strings) → length a ≡ length b → length (join a b) ≡ length a
unfolding join
length_join [] [] e = refl
length_join [] (b ∷ bs) e = absurd (omega arith)
length_join (a ∷ a') [] e = refl
length_join (a ∷ a') (b ∷ bs) e = ap suc (length_join a' bs (omega arith))

pub length_commons : (s t : Strings) → length s ≡ length t → length (commons s t) ≡ length t
unfolding commons
length_commons [] t e = e
length_commons (s ∷ ss) [] e = absurd (omega arith)
length_commons (s ∷ ss) (t ∷ ts) e = ap suc (length_commons ss ts (omega arith))

pub length_shared : (n : ℕ) {x : Key} {xs : List Key} → All (λ y. length y.strings ≡ n) (x ∷ xs) → length (shared (x ∷ xs)) ≡ n
unfolding shared narrow
length_shared n {x} a = go x.strings (all_head a) (all_tail a)
  where
    go : (s : Strings) {ys : List Key} → length s ≡ n → All (λ y. length y.strings ≡ n) ys → length (narrow s ys) ≡ n
    go s h nil = h
    go s h (cons {x = y} {xs = ys} e r) = let m = go s h r in length_commons y.strings (narrow s ys) (e ∙ sym m) ∙ m

-- dimension by dimension
pub at_join : (d : ℕ) (a b : Strings) → at d (join a b) ≡ at d a ++ at d b
unfolding join
at_join d [] b = refl
at_join zero (a ∷ a') [] = sym (append-nil a)
at_join (suc d) (a ∷ a') [] = sym (append-nil (at d a'))
at_join zero (a ∷ a') (b ∷ bs) = refl
at_join (suc d) (a ∷ a') (b ∷ bs) = at_join d a' bs

drop_none : (i : ℕ) → ◌≡◌ {A = List ℕ} (drop i []) []
drop_none zero = refl
drop_none (suc i) = refl

pub at_strip : (d : ℕ) (p s : Strings) → at d (strip p s) ≡ drop (length (at d p)) (at d s)
unfolding strip
at_strip d [] s = refl
at_strip d (p ∷ ps) [] = sym (drop_none (length (at d (p ∷ ps))))
at_strip zero (p ∷ ps) (s ∷ ss) = refl
at_strip (suc d) (p ∷ ps) (s ∷ ss) = at_strip d ps ss

-- the first byte is a matter of one dimension
pub first_at : (d : ℕ) (s : Strings) → first d s ≡ first zero (at d s ∷ [])
unfolding first
first_at d [] = refl
first_at zero ([] ∷ ss) = refl
first_at zero ((b ∷ s) ∷ ss) = refl
first_at (suc d) (s ∷ ss) = first_at d ss

-- where there is a byte there is a dimension
pub first_inside : (d : ℕ) (s : Strings) → first d s < 256 → d < length s
unfolding first
first_inside d [] h = absurd (omega arith)
first_inside zero (s ∷ ss) h = omega arith
first_inside (suc d) (s ∷ ss) h = let r = first_inside d ss h in omega arith

pub at_inside : (d : ℕ) (s : Strings) → (at d s ≡ [] → ⊥) → d < length s
at_inside d [] h = absurd (h refl)
at_inside zero (s ∷ ss) h = omega arith
at_inside (suc d) (s ∷ ss) h = let r = at_inside d ss h in omega arith

-- .. and a string that is not empty
pub first_some : (d : ℕ) (s : Strings) → first d s < 256 → at d s ≡ [] → ⊥
first_some d s h e = none (ap (λ (l : List ℕ). first zero (l ∷ [])) e) h
  where
    none : first zero (at d s ∷ []) ≡ first zero ([] ∷ []) → first d s < 256 → ⊥
    none q l = let r : first zero ([] ∷ []) ≡ 256 = unfold first in refl in omega (arith, first_at d s)

-- bytes in all dimensions together
pub at_total : (d : ℕ) (s : Strings) → length (at d s) ≤ total s
unfolding total
at_total d [] = omega arith
at_total zero (s ∷ ss) = omega arith
at_total (suc d) (s ∷ ss) = let r = at_total d ss in omega arith

pub some_total : (d : ℕ) (s : Strings) → (at d s ≡ [] → ⊥) → 1 ≤ total s
some_total d s h = go (at d s) h (at_total d s)
  where
    go : (l : List ℕ) → (l ≡ [] → ⊥) → length l ≤ total s → 1 ≤ total s
    go [] h m = absurd (h refl)
    go (b ∷ l) h m = omega arith

pub total_join : (p s : Strings) → total (join p s) ≡ total p + total s
unfolding join total
total_join [] s = omega arith
total_join (p ∷ ps) [] = omega arith
total_join (p ∷ ps) (s ∷ ss) = let e = total_join ps ss in simp length-append (omega arith)

pub total_strip : (p s : Strings) → Prefixes p s → total s ≡ total p + total (strip p s)
total_strip p s h = sym (ap total (join_strip p s h)) ∙ total_join p (strip p s)

-- behind k, then behind p
pub total_strip_strip : (k p s : Strings) → Prefixes k p → Prefixes p s
    → total (strip k s) ≡ total (strip k p) + total (strip p s)
total_strip_strip k p s f g =
    let a = total_strip k p f in
    let b = total_strip p s g in
    let c = total_strip k s (prefixes_trans k p s f g) in
    omega arith
