-- `glob::fit::alike` meets its contract: the next byte of both is the same, and no `*`.
use Rattle.std.proofs.Common.{arith}
use Rattle.glob.proofs.Trials.{alike_on}
use Rattle.glob.proofs.fit.alike.Goals as goal

pub loop-i-preserved : goal.loop-i-preserved
loop-i-preserved c = alike_on c.args.p.now c.args.s.now c.loop-i.i (omega arith) (omega arith) c.if-p-i-eq-STAR.false (omega arith) c.loop-i.invariant
