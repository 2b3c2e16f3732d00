-- The round of the dimensions: in which one a node branches. Levels and the small trie go by the same round.
use Rattle.std.specs.Prelude.{ℕ, zero, suc, ◌≡◌, refl, Bool, cond, eqb}
use Rattle.std.proofs.Math.Option.{Option, none, some}
use Rattle.trie_theory.specs.Forest.{Strings}
use Rattle.trie_theory.specs.Strings.{first}

-- what stands above tries side by side: nothing, or a node that branches in a dimension
pub data Above : Type 0 where
  root : Above
  below : ℕ → Above

-- of n dimensions the one after d; after the last the first
unfoldable pub next : ℕ → ℕ → ℕ
next n d = cond (eqb (suc d) n) 0 (suc d)

-- the wanted dimension: at the root the first, below a node the one after the one it uses
unfoldable pub wanted : ℕ → Above → ℕ
wanted n root = 0
wanted n (below d) = next n d

-- the first of f dimensions, from d on, round about, that passes the test
unfoldable pub seek : (ℕ → Bool) → ℕ → ℕ → ℕ → Option ℕ
seek t n zero d = none
seek t n (suc f) d = cond (t d) (some d) (seek t n f (next n d))

-- the first of all n dimensions, from the wanted one on
unfoldable pub turn : (ℕ → Bool) → ℕ → Above → Option ℕ
turn t n above = seek t n n (wanted n above)

-- the branching byte of strings: their first in the dimension of the node above; a root has none
unfoldable pub branching : Above → Strings → ℕ
branching root s = 256
branching (below d) s = first d s

-- THE ROUND OF TWO DIMENSIONS, in document 01's words: the wanted dimension if it passes, else the other if that passes;
-- at the root the wanted one is V, below a node the one that the node does not use
pub two_dimensions : (t : ℕ → Bool) →
    (turn t 2 root ≡ cond (t 0) (some 0) (cond (t 1) (some 1) none))
    × (turn t 2 (below 0) ≡ cond (t 1) (some 1) (cond (t 0) (some 0) none))
    × (turn t 2 (below 1) ≡ cond (t 0) (some 0) (cond (t 1) (some 1) none))
unfolding turn seek wanted next
two_dimensions t = (refl, refl, refl)
