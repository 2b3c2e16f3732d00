-- The laws of a partition (Definition 6): each part is not empty and has one byte, the bytes ascend, nothing is lost or added,
-- and keys that differ have at least two parts, each of fewer keys.
use Prim.Native.Nat.{ℕ, zero, suc, ◌+◌, ◌≤◌, ◌<◌}
use mathlib.Core.Path.{◌≡◌, refl, sym, ap, ◌∙◌}
use mathlib.Core.Bool.{Bool, true, false, cond, ◌||◌}
use mathlib.Core.List.{List, [], ◌∷◌, ◌++◌}
use native.Mathlib.Omega.{arith}
use lib.ListN.{length, drop, replicate, length-append, length-replicate}
use lib.Dec.{eqb, ltb}
use borrow.Author.Tests.{eqb-true, eqb-false, eq-eqb, ne_eqb, ltb-true}
use Rattle.trie_theory.specs.Forest.{Strings, Key}
use Rattle.buffer.specs.Lists.{All, nil, cons, pick, sum, flat}
use Rattle.trie_theory.specs.Strings.{strip, first}
use Rattle.trie_theory.specs.Position.{shared, byte, differ}
use Rattle.trie_theory.specs.Parts.{keep, filled, parts_from, parts}
use Rattle.buffer.proofs.Lists.{all_imp, all_both, all_tested, all_pick}
use Rattle.buffer.proofs.Sums.{sum_append, sum_pick, sum_equal, sum_zero, sum_none, equal_length}
use Rattle.trie_theory.proofs.Prefix.{Prefix, Prefixes, From, shared_all, shared_greatest, length_prefixes}
use Rattle.trie_theory.proofs.Strings.{length_strip, first_inside}

module _ (d : ℕ) (p : Strings) (P : Key → Type 0) where
  -- Parts with bytes from b on, ascending, none empty; P holds of every key
  pub data Partition : ℕ → List (List Key) → Type 0 where
    done : {b : ℕ} → Partition b []
    part : {b : ℕ} {x : Key} {xs : List Key} {ps : List (List Key)} (c : ℕ) → b ≤ c → c < 256
        → All (λ y. P y × (byte d p y ≡ c)) (x ∷ xs) → Partition (suc c) ps → Partition b ((x ∷ xs) ∷ ps)

  lower : {b : ℕ} (a : ℕ) {ps : List (List Key)} → a ≤ b → Partition b ps → Partition a ps
  lower a h done = done
  lower a h (part {b = b} c l u q r) = part {b = a} c (omega arith) u q r

  pub partition_from : (f b : ℕ) {ks : List Key} → b + f ≤ 256 → All P ks → Partition b (parts_from d p f b ks)
  unfolding parts_from keep filled
  partition_from zero b h a = done
  partition_from (suc f) b {ks} h a =
      go (pick (λ x. eqb (byte d p x) b) ks)
      (all_imp (λ y q. (q.0, eqb-true (byte d p y) b q.1)) (all_pick (λ x. eqb (byte d p x) b) a))
      (partition_from f (suc b) (omega arith) a)
    where
      go : (xs : List Key) → All (λ y. P y × (byte d p y ≡ b)) xs → Partition (suc b) (parts_from d p f (suc b) ks)
          → Partition b (filled xs (parts_from d p f (suc b) ks))
      go [] q r = lower b (omega arith) r
      go (x ∷ xs) q r = part {b = b} b (omega arith) (omega arith) q r

-- v is one of the f bytes from b on
within : ℕ → ℕ → ℕ → Bool
within zero b v = false
within (suc f) b v = eqb v b || within f (suc b) v

within_true : (f b v : ℕ) → b ≤ v → v < b + f → within f b v ≡ true
unfolding within
within_true zero b v l u = absurd (omega arith)
within_true (suc f) b v l u = go (eqb v b) refl (within_true f (suc b) v)
  where
    go : (w : Bool) → eqb v b ≡ w → (suc b ≤ v → v < suc b + f → within f (suc b) v ≡ true) → (w || within f (suc b) v) ≡ true
    go true e r = refl
    go false e r = let n = eqb-false v b e in r (omega arith) (omega arith)

within_false : (f b v : ℕ) → v < b → within f b v ≡ false
unfolding within
within_false zero b v h = refl
within_false (suc f) b v h = rw (ne_eqb v b (λ e. omega arith)) (within_false f (suc b) v (omega arith))

flat_filled : (xs : List Key) (ps : List (List Key)) → flat (filled xs ps) ≡ xs ++ flat ps
unfolding filled flat
flat_filled [] ps = refl
flat_filled (x ∷ xs) ps = refl

-- the parts one after the other are the keys with byte b, then those with the next, and so on: a stable partition
pub flat_parts : (d : ℕ) (p : Strings) (f b : ℕ) (ks : List Key)
    → flat (parts_from d p (suc f) b ks) ≡ keep d p b ks ++ flat (parts_from d p f (suc b) ks)
unfolding parts_from
flat_parts d p f b ks = flat_filled (keep d p b ks) (parts_from d p f (suc b) ks)

-- the keys with one of the f bytes from b on are in the parts, each once
sum_from : (h : Key → ℕ) (d : ℕ) (p : Strings) (f b : ℕ) (ks : List Key)
    → sum h (flat (parts_from d p f b ks)) ≡ sum (λ x. cond (within f b (byte d p x)) (h x) 0) ks
unfolding parts_from keep within flat sum
sum_from h d p zero b ks = sym (sum_none ks)
sum_from h d p (suc f) b ks =
    ap (sum h) (flat_filled (keep d p b ks) (parts_from d p f (suc b) ks))
    ∙ sum_append h (keep d p b ks) (flat (parts_from d p f (suc b) ks))
    ∙ ap (λ (n : ℕ). sum h (keep d p b ks) + n) (sum_from h d p f (suc b) ks)
    ∙ sum_pick h (λ x. eqb (byte d p x) b) (λ x. within f (suc b) (byte d p x)) ks
    (λ x e. within_false f (suc b) (byte d p x) (let q = eqb-true (byte d p x) b e in omega arith))

-- keys that differ have a byte each
pub differ_all : (d : ℕ) (ks : List Key) → differ d ks ≡ true → All (λ x. byte d (shared ks) x < 256) ks
unfolding differ
differ_all d ks e = all_imp (λ x t. ltb-true (byte d (shared ks) x) 256 t) (all_tested (λ x. ltb (byte d (shared ks) x) 256) ks e)

-- NOTHING IS LOST OR ADDED by partitioning keys that differ
pub sum_parts : (h : Key → ℕ) (d : ℕ) (ks : List Key) → differ d ks ≡ true → sum h (flat (parts d ks)) ≡ sum h ks
unfolding parts
sum_parts h d ks e =
    let p = shared ks in
    sum_from h d p 256 0 ks
    ∙ sum_equal (λ x. cond (within 256 0 (byte d p x)) (h x) 0) h
    (all_imp (λ x l. rw (within_true 256 0 (byte d p x) (omega arith) (omega arith))) (differ_all d ks e))

-- strings with the byte b added in dimension d
unfoldable pub extend : ℕ → ℕ → Strings → Strings
extend d b [] = []
extend zero b (k ∷ ks) = (k ++ (b ∷ [])) ∷ ks
extend (suc d) b (k ∷ ks) = k ∷ extend d b ks

prefix_snoc : (b : ℕ) (k s : List ℕ) (ss : Strings) → b < 256 → Prefix k s → first zero (drop (length k) s ∷ ss) ≡ b
    → Prefix (k ++ (b ∷ [])) s
unfolding Prefix first
prefix_snoc b [] [] ss u h e = absurd (omega arith)
prefix_snoc b [] (c ∷ s) ss u h e = (sym e, tt)
prefix_snoc b (a ∷ k) [] ss u h e = absurd h
prefix_snoc b (a ∷ k) (c ∷ s) ss u h e = (h.0, prefix_snoc b k s ss u h.1 e)

-- what goes on from k with the byte b
pub extend_in : (d b : ℕ) (k s : Strings) → b < 256 → Prefixes k s → first d (strip k s) ≡ b → Prefixes (extend d b k) s
unfolding Prefixes strip first extend
extend_in d b [] s u h e = tt
extend_in zero b (k ∷ ks) [] u h e = absurd h
extend_in zero b (k ∷ ks) (s ∷ ss) u h e = (prefix_snoc b k s (strip ks ss) u h.0 e, h.1)
extend_in (suc d) b (k ∷ ks) [] u h e = absurd h
extend_in (suc d) b (k ∷ ks) (s ∷ ss) u h e = (h.0, extend_in d b ks ss u h.1 e)

snoc_first : (b : ℕ) (k s : List ℕ) (ss : Strings) → Prefix (k ++ (b ∷ [])) s → first zero (drop (length k) s ∷ ss) ≡ b
unfolding Prefix first
snoc_first b [] [] ss h = absurd h
snoc_first b [] (c ∷ s) ss h = sym h.0
snoc_first b (a ∷ k) [] ss h = absurd h
snoc_first b (a ∷ k) (c ∷ s) ss h = snoc_first b k s ss h.1

pub extend_out : (d b : ℕ) (k s : Strings) → d < length k → Prefixes (extend d b k) s → first d (strip k s) ≡ b
unfolding Prefixes strip first extend
extend_out d b [] s l h = absurd (omega arith)
extend_out zero b (k ∷ ks) [] l h = absurd h
extend_out zero b (k ∷ ks) (s ∷ ss) l h = snoc_first b k s (strip ks ss) h.0
extend_out (suc d) b (k ∷ ks) [] l h = absurd h
extend_out (suc d) b (k ∷ ks) (s ∷ ss) l h = extend_out d b ks ss (omega arith) h.1

-- strings do not go on from themselves
pub first_self : (d : ℕ) (s : Strings) → first d (strip s s) ≡ 256
unfolding first strip
first_self d [] = refl
first_self zero (s ∷ ss) = go s
  where
    go : (s : List ℕ) → first zero (drop (length s) s ∷ strip ss ss) ≡ 256
    go [] = refl
    go (a ∷ s) = go s
first_self (suc d) (s ∷ ss) = first_self d ss

-- the parts of keys
pub partition : (P : Key → Type 0) (d : ℕ) {ks : List Key} → All P ks → Partition d (shared ks) P 0 (parts d ks)
unfolding parts
partition P d {ks} a = partition_from d (shared ks) P 256 0 (omega arith) a

-- n empty strings begin whatever has n strings
empty_prefixes : (n : ℕ) (s : Strings) → n ≤ length s → Prefixes (replicate n []) s
unfolding Prefixes Prefix
empty_prefixes zero s h = tt
empty_prefixes (suc n) [] h = absurd (omega arith)
empty_prefixes (suc n) (s ∷ ss) h = (tt, empty_prefixes n ss (omega arith))

-- the dimension in which keys differ is there
pub differ_inside : (d : ℕ) (x : Key) (xs : List Key) → differ d (x ∷ xs) ≡ true → d < length (shared (x ∷ xs))
unfolding byte
differ_inside d x xs e =
    let p = shared (x ∷ xs) in
    let none : Strings = replicate (suc d) [] in
    let a : All (From none) (x ∷ xs) =
    all_imp (λ y l. empty_prefixes (suc d) y.strings
    (let i = first_inside d (strip p y.strings) l in omega (arith, length_strip p y.strings)))
    (differ_all d (x ∷ xs) e) in
    omega (arith, length_prefixes none p (shared_greatest none a), length-replicate {A = List ℕ} d [])

module _ (d c : ℕ) (p : Strings) (inside : d < length p) (u : c < 256) where
  -- keys with the byte c behind p share it
  pub part_first : {x : Key} {xs : List Key} → All (λ y. From p y × (byte d p y ≡ c)) (x ∷ xs)
      → first d (strip p (shared (x ∷ xs))) ≡ c
  unfolding byte
  part_first {x} {xs} a =
      extend_out d c p (shared (x ∷ xs)) inside
      (shared_greatest (extend d c p) (all_imp (λ y q. extend_in d c p y.strings u q.0 q.1) a))

  pub part_from : {x : Key} {xs : List Key} → All (λ y. From p y × (byte d p y ≡ c)) (x ∷ xs) → Prefixes p (shared (x ∷ xs))
  part_from a = shared_greatest p (all_imp (λ y q. q.0) a)

-- the byte is not c
other : ℕ → ℕ → ℕ
other c v = cond (eqb v c) 0 1

other_zero : (c v : ℕ) → other c v ≡ 0 → v ≡ c
unfolding other
other_zero c v = go (eqb v c) refl
  where
    go : (w : Bool) → eqb v c ≡ w → ◌≡◌ {A = ℕ} (cond w 0 1) 0 → v ≡ c
    go true e z = eqb-true v c e
    go false e z = absurd (omega arith)

other_same : (c v : ℕ) → v ≡ c → other c v ≡ 0
unfolding other
other_same c v e = rw (eq-eqb v c e)

-- KEYS THAT DIFFER HAVE AT LEAST TWO PARTS
pub parts_two : (d : ℕ) (x : Key) (xs : List Key) → differ d (x ∷ xs) ≡ true → 2 ≤ length (parts d (x ∷ xs))
unfolding sum flat byte
parts_two d x xs e = go (partition (From p) d (shared_all ks)) (λ h. sum_parts h d ks e)
  where
    ks : List Key
    ks = x ∷ xs

    p : Strings
    p = shared (x ∷ xs)

    go : {ps : List (List Key)} → Partition d p (From p) 0 ps → ((h : Key → ℕ) → sum h (flat ps) ≡ sum h ks) → 2 ≤ length ps
    go done s = let z = s (λ x. 1) in absurd (omega arith)
    go (part {x = y} {xs = ys} c l u a done) s =
        let h : Key → ℕ = λ z. other c (byte d p z) in
        let none_left : sum h (y ∷ ys) ≡ 0 =
        sum_equal h (λ z. 0) (all_imp (λ z q. other_same c (byte d p z) q.1) a) ∙ sum_none (y ∷ ys) in
        let zero-all : sum h ks ≡ 0 = sym (s h) ∙ sum_append h (y ∷ ys) [] ∙ omega arith in
        let same : All (λ z. h z ≡ 0) ks = sum_zero h ks zero-all in
        let more : first d (strip p p) ≡ c =
        part_first d c p (differ_inside d x xs e) u
        (all_imp (λ z q. (q.0, other_zero c (byte d p z) q.1)) (all_both (shared_all ks) same)) in
        absurd (omega (arith, first_self d p))
    go (part c l u a (part c' l' u' a' r)) s = omega arith

-- a part has fewer keys than all have
others : {d : ℕ} {p : Strings} {P : Key → Type 0} {b : ℕ} {ps : List (List Key)} → Partition d p P b ps
    → All (λ q. length q + length ps ≤ suc (length (flat ps))) ps
unfolding flat
others done = nil
others (part {x = x} {xs = xs} {ps = ps} c l u a r) =
    cons {x = x ∷ xs} (let m = few r in omega (arith, length-append xs (flat ps)))
    (all_imp (λ q m. omega (arith, length-append xs (flat ps))) (others r))
  where
    few : {d : ℕ} {p : Strings} {P : Key → Type 0} {b : ℕ} {ps : List (List Key)} → Partition d p P b ps → length ps ≤ length (flat ps)
    few done = omega arith
    few (part {x = x} {xs = xs} {ps = ps} c l u a r) = let m = few r in omega (arith, length-append xs (flat ps))

pub parts_short : (d : ℕ) (x : Key) (xs : List Key) → differ d (x ∷ xs) ≡ true
    → All (λ q. length q < length (x ∷ xs)) (parts d (x ∷ xs))
parts_short d x xs e =
    let ks : List Key = x ∷ xs in
    let t = parts_two d x xs e in
    let s = equal_length (flat (parts d ks)) ks (λ h. sum_parts h d ks e) in
    all_imp (λ q m. omega arith) (others (partition (From (shared ks)) d (shared_all ks)))
