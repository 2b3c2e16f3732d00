-- Field by field; each return is misread at the field that the definition stops at.
use Rattle.std.proofs.Common.{rules}
use mathlib.Core.Path.{sym, ◌∙◌}
use Rattle.logline.proofs.Reading.{misreads, sought}
use Rattle.logline.proofs.reader.Line.search.Goals as goal

pub returns-in_err-low : goal.returns-in_err-low
returns-in_err-low c = misreads c.from_residual.ensures (c.in_err-low.ensures.means _)

pub returns-in_err-high : goal.returns-in_err-high
returns-in_err-high c = misreads c.from_residual-in_err-high.ensures (c.in_ok-low.ensures.means _ ∙ c.in_err-high.ensures.means _)

pub returns : goal.returns
returns c = record { means = sym (c.in_ok-low.ensures.means _ ∙ c.in_ok-high.ensures.means _ ∙ sought _ _ _ _ (search rules)) }
