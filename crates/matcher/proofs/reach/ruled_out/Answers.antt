-- `matcher::reach::ruled_out` meets its contract.
use native.Mathlib.Omega.{arith}
use Rattle.matcher.proofs.Ruled.{by_difference}
use Rattle.matcher.proofs.reach.ruled_out.Goals as goal

pub returns : goal.returns
returns c =
    let a = c.args in
    by_difference a.pattern.now a.literal a.p a.s.now _ (omega (arith, c.if-literal-p.false)) c.differs.ensures
