-- The answer by the span of all bytes known.
use mathlib.Core.Path.{refl}
use mathlib.Core.List.{[]}
use native.Mathlib.Omega.{arith}
use lib.Seq.{take-length}
use Rattle.entries.specs.Query.{asked}
use Rattle.value_range.proofs.Ranges.{out_long, spans_first}
use Rattle.value_range.proofs.value.value_reach.Goals as goal

pub returns-then-known-gt-VALUE_SIZE : goal.returns-then-known-gt-VALUE_SIZE
returns-then-known-gt-VALUE_SIZE c = λ p. out_long p _ _ _ (omega arith)

pub returns : goal.returns
returns c =
    let a = c.args in
    λ p. rw take-length at (c.value_with.ensures (asked p a.range.from a.range.to) [] refl (spans_first _ _ _ _ (omega arith) c.steps-span.ensures))
