-- Field by field; each return is misread at the field that the definition stops at.
use Rattle.std.proofs.Common.{rules}
use mathlib.Core.Path.{sym, ◌∙◌}
use mathlib.Core.List.{List}
use Prim.Native.Nat.{ℕ}
use Rattle.logline.specs.Meaning.{addition}
use Rattle.logline.specs.Reading.{rest_of}
use Rattle.logline.proofs.Reading.{misreads, no_reference, a_reference, added}
use Rattle.logline.proofs.reader.Line.addition.Goals as goal

pub returns-in_err-value : goal.returns-in_err-value
returns-in_err-value c = misreads c.from_residual.ensures (c.in_err-value.ensures.means _)

pub returns-in_err-field : goal.returns-in_err-field
returns-in_err-field c = misreads c.from_residual-in_err-field.ensures (c.in_ok-value.ensures.means _ ∙ c.in_err-field.ensures.means _)

pub returns-in_err-reference : goal.returns-in_err-reference
returns-in_err-reference c = misreads c.from_residual-in_err-reference.ensures (c.in_ok-value.ensures.means _ ∙ c.in_ok-field.ensures.means _ ∙ no_reference _ _ _ c.in_err-reference.ensures)

pub returns : goal.returns
returns c = record { means = sym (c.in_ok-value.ensures.means _ ∙ c.in_ok-field.ensures.means _ ∙ a_reference _ _ _ (λ (r : List ℕ). addition c.in_ok-value.value r (rest_of c.field.new.self)) c.in_ok-reference.ensures ∙ added _ _ _ _ (search rules)) }
