-- Kinds and dimensions against the numbers that the theory has for them. Assumes nothing.
use mathlib.Core.Path.{◌≡◌, refl, sym, ap, ◌∙◌}
use Prim.Native.Nat.{ℕ, zero, suc, ◌-◌, ◌<◌}
use native.Mathlib.Omega.{arith}
use native.Mathlib.Bridge.{le_prop}
use Rattle.trie_read.specs.Kinds.{number_of, kind_of_byte, byte_of_kind}
use Rattle.trie_read.specs.declared.kind.Dimension.{Dimension}
use Rattle.trie_read.specs.declared.kind.Dimension.TheVariants.{Other}
use Rattle.trie_read.specs.declared.kind.Kind.{Kind}
use Rattle.trie_read.specs.declared.kind.Kind.TheVariants.{Leaf, Inner}

-- a byte's kind has this byte
pub byte_back : (b : ℕ) → byte_of_kind (kind_of_byte b) ≡ b
byte_back zero = refl
byte_back (suc zero) = refl
byte_back (suc (suc zero)) = refl
byte_back (suc (suc (suc b))) = refl

-- the kind of a byte above those of ours
pub beyond_kind : (b : ℕ) (q : 2 < b) → ◌≡◌ {A = Kind} (Inner (Other (record { byte = b; above = q }))) (kind_of_byte b)
beyond_kind zero q = absurd (omega arith)
beyond_kind (suc zero) q = absurd (omega arith)
beyond_kind (suc (suc zero)) q = absurd (omega arith)
beyond_kind (suc (suc (suc b))) q = ap (λ (p : 2 < suc (suc (suc b))). Inner (Other (record { byte = suc (suc (suc b)); above = p }))) (le_prop q _)

-- the dimension of an inner node
dimension_in : Kind → ℕ
dimension_in Leaf = 0
dimension_in (Inner d) = number_of d

number_back : (d : ℕ) → dimension_in (kind_of_byte (suc d)) ≡ d
unfolding dimension_in
number_back zero = refl
number_back (suc zero) = refl
number_back (suc (suc d)) =
    let e : suc (suc (suc d)) - 3 ≡ d = omega arith in
    ap (λ (k : ℕ). suc (suc k)) e

pub inner_number : (n : ℕ) (d : Dimension) → kind_of_byte (suc n) ≡ Inner d → number_of d ≡ n
unfolding dimension_in
inner_number n d e = sym (ap dimension_in e) ∙ number_back n

-- no leaf
pub byte_inner : (n : ℕ) → kind_of_byte (suc n) ≡ Leaf → ⊥
byte_inner zero e = cc
byte_inner (suc zero) e = cc
byte_inner (suc (suc n)) e = cc
