-- `matcher::runs::are_apart` meets its contract. The invariant: what holds from here on is what holds of the whole.
use borrow.Author.Rules.{rules}
use mathlib.Core.Path.{◌≡◌, sym, ◌∙◌}
use Prim.Native.Nat.{◌-◌}
use native.Mathlib.Omega.{arith}
use lib.ListN.{length, drop}
use Rattle.matcher.specs.Form.{apart}
use Rattle.matcher.proofs.Apart.{apart_past, apart_stop, apart_on}
use Rattle.matcher.proofs.runs.are_apart.Goals.{After-label_end-end}
use Rattle.matcher.proofs.runs.are_apart.Goals as goal

-- what holds behind the label bytes passed over is what holds of the whole
past : (c : After-label_end-end)
    → let a = c.args in apart a.mark a.s.now ≡ apart a.mark (drop c.label_end-end.result a.s.now)
past c =
    c.loop-i.invariant.1 ∙ apart_past c.args.mark c.args.s.now (length c.args.s.now - 1) c.loop-i.i c.label_end-end.result c.requires.0 (omega (arith, c.loop-i-test.true)) c.label_end-end.ensures.0

pub returns-then-not-may_stand : goal.returns-then-not-may_stand
returns-then-not-may_stand c =
    let a = c.args in
    sym (past (goal.at.returns-then-not-may_stand c).After-label_end-end ∙ apart_stop a.mark a.s.now c.label_end-end.result (omega arith) (sym c.may_stand.ensures ∙ c.if-not-may_stand.true))

pub loop-i-preserved : goal.loop-i-preserved
loop-i-preserved c =
    let a = c.args in
    (search rules, past (goal.at.loop-i-preserved c).After-label_end-end ∙ apart_on a.mark a.s.now c.label_end-end.result (omega arith) (sym c.may_stand.ensures ∙ c.if-not-may_stand.false))
