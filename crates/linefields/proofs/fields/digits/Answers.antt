-- Each exit is `None` for what is left, and so for all: at another byte, or where the number is too large.
use native.Mathlib.Omega.{arith}
use Prim.Native.Nat.{◌+◌, ◌-◌, ◌*◌}
use mathlib.Core.Path.{◌≡◌, sym, ◌∙◌}
use lib.ListN.{get_or}
use Rattle.linefields.proofs.Scan.{number_end, number_digit, number_other, number_large}
use Rattle.linefields.proofs.fields.digits.Goals as goal

pub returns-then-not-is_ascii_digit : goal.returns-then-not-is_ascii_digit
returns-then-not-is_ascii_digit c =
    let l = c.loop-b in
    let d = sym c.is_ascii_digit.ensures.value ∙ c.if-not-is_ascii_digit.true in
    sym (sym l.invariant.same ∙ number_other _ l.n l.b-index (omega arith) d)

pub returns-in_err-checked_mul : goal.returns-in_err-checked_mul
returns-in_err-checked_mul c =
    let l = c.loop-b in
    let d = sym c.is_ascii_digit.ensures.value ∙ c.if-not-is_ascii_digit.false in
    c.from_residual.ensures ∙ sym (sym l.invariant.same ∙ number_digit _ l.n l.b-index (omega arith) d ∙ number_large _ _ (omega (arith, c.in_err-checked_mul.ensures)))

pub returns-in_err-n : goal.returns-in_err-n
returns-in_err-n c =
    let l = c.loop-b in
    let d = sym c.is_ascii_digit.ensures.value ∙ c.if-not-is_ascii_digit.false in
    c.from_residual-in_err-n.ensures ∙ sym (sym l.invariant.same ∙ number_digit _ l.n l.b-index (omega arith) d ∙ number_large _ _ (omega (arith, c.in_err-n.ensures, c.in_ok-checked_mul.ensures, c.from.ensures)))

pub loop-b-preserved : goal.loop-b-preserved
loop-b-preserved c =
    let l = c.loop-b in
    let d = sym c.is_ascii_digit.ensures.value ∙ c.if-not-is_ascii_digit.false in
    let e : c.in_ok-n.n ≡ l.n * 10 + (get_or c.args.s.now l.b-index 0 - 48) = omega (arith, c.in_ok-n.ensures, c.in_ok-checked_mul.ensures, c.from.ensures) in
    record { fits = omega arith; same = rw e (sym (number_digit _ l.n l.b-index (omega arith) d) ∙ l.invariant.same) }

pub returns : goal.returns
returns c =
    let l = c.loop-b in
    sym (sym l.invariant.same ∙ number_end _ l.n l.b-index (omega arith) l.invariant.fits)
