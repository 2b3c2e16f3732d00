-- A reference has 40 digits, and the first 40 are all.
use native.Mathlib.Omega.{arith}
use mathlib.Core.Path.{◌≡◌, sym, ap, ◌∙◌}
use lib.Seq.{take_all}
use Rattle.std.proofs.Common.{Some}
use Rattle.linefields.specs.Fields.{unhex}
use Rattle.linefields.proofs.Scan.{reference_short, reference_length}
use Rattle.linefields.proofs.fields.reference.Goals as goal

pub returns-in_err-digits : goal.returns-in_err-digits
returns-in_err-digits c = c.from_residual.ensures ∙ sym (rw (reference_short c.args.s.now (omega (arith, c.in_err-digits.ensures))))

pub returns : goal.returns
returns c =
    let s = c.args.s.now in
    let r = sym c.is_reference.ensures ∙ c.if-not-is_reference.false in
    let d : c.in_ok-digits.digits.now ≡ s = c.in_ok-digits.ensures.cases.same ∙ take_all 40 s (omega (arith, reference_length s r)) in
    rw r (ap Some (c.unhex.ensures ∙ ap unhex d))
