-- Field by field; each return is misread at the field that the definition stops at.
use mathlib.Core.Path.{ap, sym, ◌∙◌}
use Rattle.linefields.specs.Fields.{number_of}
use Rattle.logline.proofs.Reading.{misreads, last_number}
use Rattle.logline.proofs.reader.Line.setup.Goals as goal

pub returns-in_err-l : goal.returns-in_err-l
returns-in_err-l c = misreads c.from_residual-in_err-l.ensures (rw (← c.in_ok-m.ensures) (c.in_err-l.ensures.means _))

pub returns-in_err-tau : goal.returns-in_err-tau
returns-in_err-tau c = misreads c.from_residual-in_err-tau.ensures (rw (← c.in_ok-m.ensures) (c.in_ok-l.ensures.means _ ∙ last_number _ _ _ (c.in_err-tau.ensures ∙ ap number_of c.rest.ensures)))

pub returns : goal.returns
returns c = record { means = sym (rw (← c.in_ok-m.ensures) (c.in_ok-l.ensures.means _ ∙ last_number _ _ _ (c.in_ok-tau.ensures ∙ ap number_of c.rest.ensures))) }
