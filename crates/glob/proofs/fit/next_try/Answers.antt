-- `glob::fit::next_try` meets its contract, by `passed`.
use Rattle.std.proofs.Common.{rules, arith}
use Rattle.glob.proofs.Trials.{passed}
use Rattle.glob.proofs.fit.next_try.Goals as goal

pub returns : goal.returns
returns c =
    let a = c.args in
    (passed a.p.now a.s.now c.requires.0 c.if-p-eq-STAR.false a.from _ (omega arith) (search rules) (λ j l m e. search rules), search rules)

pub returns-in_err-position : goal.returns-in_err-position
returns-in_err-position c =
    let a = c.args in
    rw c.from_residual-in_err-position.ensures
    (passed a.p.now a.s.now c.requires.0 c.if-p-eq-STAR.false a.from _ (search rules) (omega arith) (λ j l m e. search rules))
