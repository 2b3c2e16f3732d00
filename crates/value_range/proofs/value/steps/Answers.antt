-- Both ends by division.
use native.Mathlib.Omega.{arith}
use mathlib.Core.Path.{subst, sym, ap, ◌∙◌}
use Prim.Native.Nat.{ℕ, ◌^◌, ◌/◌}
use Rattle.value_range.specs.Spans.{Steps}
use Rattle.value_range.proofs.Ranges.{steps_are, power_positive}
use Rattle.value_range.proofs.value.steps.Goals as goal

pub returns : goal.returns
returns c =
    let a = c.args in
    subst (λ (to : ℕ). Steps a.range.from a.range.to a.first (256 ^ a.n) c.without_last.result to) (sym c.without_last-2.ensures)
    (steps_are _ _ _ _ (power_positive a.n) (omega arith) (omega arith) _ (c.without_last.ensures ∙ ap (λ (x : ℕ). x / 256 ^ a.n) c.saturating_sub.ensures))
