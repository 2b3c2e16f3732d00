-- Comparing strings byte by byte. Assumes nothing.
use mathlib.Core.Path.{◌≡◌, refl, ap}
use mathlib.Core.Bool.{Bool, true, false, cond, ◌&&◌}
use Prim.Native.Nat.{ℕ, suc, ◌+◌, ◌≤◌, ◌<◌}
use mathlib.Core.List.{List, [], ◌∷◌}
use native.Mathlib.Omega.{arith}
use native.Mathlib.Numerals.{add-one}
use Rattle.std.specs.Prelude.{Some, None, slice_get}
use Rattle.std.specs.List.{prefix_len, zip}
use lib.ListN.{length, take, get_or, drop}
use lib.Seq.{drop-cons, drop-length}
use lib.Dec.{eqb}
use lib.Pointwise.{pointwise}
use borrow.Author.Tests.{eq-eqb, ne_eqb}
use Rattle.buffer.proofs.Tests.{and_right}
use Rattle.trie_theory.specs.Strings.{begins, common, first}
use Rattle.trie_theory.specs.Dimensions.{root, below, branching}
use Rattle.trie_theory.proofs.Strings.{first_at}

pub begins_length : (p s : List ℕ) → begins p s ≡ true → length p ≤ length s
unfolding begins
begins_length [] s e = omega arith
begins_length (a ∷ p) [] e = absurd (let z : ◌≡◌ {A = Bool} false true = e in let y : ◌≡◌ {A = ℕ} 0 1 = cc in omega arith)
begins_length (a ∷ p) (b ∷ s) e = let h = begins_length p s (and_right (eqb a b) (begins p s) e) in omega arith

-- ---- what is left to compare after i equal bytes

begins_cons : (a b : ℕ) (p s : List ℕ) → begins (a ∷ p) (b ∷ s) ≡ eqb a b && begins p s
unfolding begins
begins_cons a b p s = refl

pub begins_short : (p s : List ℕ) → length s < length p → begins p s ≡ false
unfolding begins
begins_short [] s h = absurd (omega arith)
begins_short (a ∷ p) [] h = refl
begins_short (a ∷ p) (b ∷ s) h = go (eqb a b) (begins_short p s (omega arith))
  where
    go : (t : Bool) → begins p s ≡ false → t && begins p s ≡ false
    go true e = e
    go false e = refl

pub begins_all : (p s : List ℕ) (i : ℕ) → length p ≤ i → i ≤ length p → begins (drop i p) (drop i s) ≡ true
unfolding begins
begins_all p s i h k = let e : i ≡ length p = omega arith in rw (e, drop-length p)

module _ (p s : List ℕ) (i : ℕ) (inp : i < length p) (ins : i < length s) where
  pub begins_on : get_or p i 0 ≡ get_or s i 0 → begins (drop i p) (drop i s) ≡ begins (drop (i + 1) p) (drop (i + 1) s)
  begins_on e = rw (add-one, drop-cons p i 0 inp, drop-cons s i 0 ins, begins_cons, eq-eqb (get_or p i 0) (get_or s i 0) e)

  pub begins_off : (get_or p i 0 ≡ get_or s i 0 → ⊥) → begins (drop i p) (drop i s) ≡ false
  begins_off n = rw (drop-cons p i 0 inp, drop-cons s i 0 ins, begins_cons, ne_eqb (get_or p i 0) (get_or s i 0) n)

-- what the library's test of a beginning says
pub pointwise_begins : (p s : List ℕ) → pointwise eqb p (take (length p) s) ≡ begins p s
unfolding begins
pointwise_begins [] s = refl
pointwise_begins (a ∷ p) [] = refl
pointwise_begins (a ∷ p) (b ∷ s) = ap (λ (t : Bool). eqb a b && t) (pointwise_begins p s)

-- ---- what two strings have in common

-- the equal pairs that they begin with
pub common_pairs : (s t : List ℕ) → prefix_len (λ (p : ℕ × ℕ). eqb p.0 p.1) (zip s t) ≡ length (common s t)
unfolding common
common_pairs [] t = refl
common_pairs (a ∷ s) [] = refl
common_pairs (a ∷ s) (b ∷ t) = go (eqb a b) (common_pairs s t)
  where
    go : (e : Bool) → prefix_len (λ (p : ℕ × ℕ). eqb p.0 p.1) (zip s t) ≡ length (common s t)
        → cond e (1 + prefix_len (λ (p : ℕ × ℕ). eqb p.0 p.1) (zip s t)) 0 ≡ length (cond e (a ∷ common s t) [])
    go true h = omega arith
    go false h = refl

pub common_within : (s t : List ℕ) → (length (common s t) ≤ length s) × (length (common s t) ≤ length t)
unfolding common
common_within [] t = (omega arith, omega arith)
common_within (a ∷ s) [] = (omega arith, omega arith)
common_within (a ∷ s) (b ∷ t) = go (eqb a b) (common_within s t)
  where
    go : (e : Bool) → (length (common s t) ≤ length s) × (length (common s t) ≤ length t)
        → (length (cond e (a ∷ common s t) []) ≤ length (a ∷ s)) × (length (cond e (a ∷ common s t) []) ≤ length (b ∷ t))
    go true h = (omega (arith, h.0), omega (arith, h.1))
    go false h = (omega arith, omega arith)

-- the first byte of a string
pub first_got : (s : List ℕ) (b : ℕ) → Some b ≡ slice_get s 0 → b ≡ first 0 (s ∷ [])
unfolding first
first_got [] b e = absurd cc
first_got (x ∷ s) b e = cc

pub first_missing : (s : List ℕ) → None ≡ slice_get s 0 → 256 ≡ first 0 (s ∷ [])
unfolding first
first_missing [] e = refl
first_missing (x ∷ s) e = absurd cc

-- ---- the branching byte

module _ (v p : List ℕ) where
  pub branch_value : branching (below 0) (v ∷ p ∷ []) ≡ first 0 (v ∷ [])
  unfolding branching
  branch_value = first_at 0 (v ∷ p ∷ [])

  pub branch_path : branching (below 1) (v ∷ p ∷ []) ≡ first 0 (p ∷ [])
  unfolding branching
  branch_path = first_at 1 (v ∷ p ∷ [])

  -- there are no other dimensions
  pub branch_other : (d : ℕ) → branching (below (suc (suc d))) (v ∷ p ∷ []) ≡ 256
  unfolding branching first
  branch_other d = refl

  pub branch_root : branching root (v ∷ p ∷ []) ≡ 256
  unfolding branching
  branch_root = refl
