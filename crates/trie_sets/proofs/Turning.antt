-- The round of the two dimensions, by cases on what stands above and on what differs. Assumes nothing.
use mathlib.Core.Path.{◌≡◌, refl, sym, ◌∙◌}
use mathlib.Core.Bool.{Bool, cond}
use mathlib.Core.Option.{Option, none, some}
use Prim.Native.Nat.{ℕ, zero, suc}
use native.Mathlib.Omega.{arith}
use Rattle.trie_theory.specs.Dimensions.{Above, root, below, turn, two_dimensions}
use Rattle.trie_sets.specs.Positions.{passes, OfTwo}

-- what one round gives: the first that passes
abbrev pub first_of : Bool → ℕ → Bool → ℕ → Option ℕ
first_of a d b e = cond a (some d) (cond b (some e) none)

module _ (v p : Bool) where
  -- below a node that branches in V the path is wanted
  pub turn_path : turn (passes v p) 2 (below 0) ≡ first_of p 1 v 0
  unfolding passes
  turn_path = (two_dimensions (passes v p)).1

  -- elsewhere V
  pub turn_value : (above : Above) → OfTwo above → (above ≡ below 0 → ⊥) → turn (passes v p) 2 above ≡ first_of v 0 p 1
  unfolding passes
  turn_value root h n = (two_dimensions (passes v p)).0
  turn_value (below zero) h n = absurd (n refl)
  turn_value (below (suc zero)) h n = (two_dimensions (passes v p)).2
  turn_value (below (suc (suc d))) h n = absurd (omega arith)

-- two tests that agree of the two dimensions
pub turn_same : (t u : ℕ → Bool) (above : Above) → OfTwo above → t 0 ≡ u 0 → t 1 ≡ u 1 → turn t 2 above ≡ turn u 2 above
turn_same t u root l e f = (two_dimensions t).0 ∙ rw (e, f) (sym (two_dimensions u).0)
turn_same t u (below zero) l e f = (two_dimensions t).1 ∙ rw (e, f) (sym (two_dimensions u).1)
turn_same t u (below (suc zero)) l e f = (two_dimensions t).2 ∙ rw (e, f) (sym (two_dimensions u).2)
turn_same t u (below (suc (suc d))) l e f = absurd (omega arith)
