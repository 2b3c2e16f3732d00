-- Too long, or by whether a byte is counted.
use mathlib.Core.Path.{ap, sym, ◌∙◌}
use native.Mathlib.Omega.{arith}
use Rattle.linecut.specs.Input.{counted}
use Rattle.linecut.proofs.Feeding.{end_none, end_line, finished_none, finished_line}
use Rattle.linecut.proofs.lines.Begun.finish.Goals as goal

pub returns-in_default : goal.returns-in_default
returns-in_default c =
    let cut = sym c.in_default.is ∙ c.args.self.within in
    let n = ap counted c.in_default.is in
    record { by_index = λ buf begun h. end_line _ buf begun h _ cut (λ e. absurd (omega arith)); value = finished_line _ _ cut (λ e. absurd (omega arith)) }

pub returns-then-len-eq0 : goal.returns-then-len-eq0
returns-then-len-eq0 c =
    let n = ap counted c.in-Line.is in
    let k = c.if-len-eq0.true in
    record { by_index = λ buf begun h. end_none _ buf begun h (omega arith); value = finished_none _ (omega arith) }

pub returns : goal.returns
returns c =
    let cut = sym c.in-Line.is ∙ c.args.self.within in
    let n = ap counted c.in-Line.is in
    let k = c.if-len-eq0.false in
    record { by_index = λ buf begun h. end_line _ buf begun h _ cut (λ e. absurd (omega arith)); value = finished_line _ _ cut (λ e. absurd (omega arith)) }
