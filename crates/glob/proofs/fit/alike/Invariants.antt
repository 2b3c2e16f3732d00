-- The bytes passed over are alike.
use Rattle.glob.specs.Inner.{Alike}
use Rattle.glob.proofs.fit.alike.Given as goal

abbrev pub invariant-loop-i : goal.invariant-loop-i
invariant-loop-i l = Alike l.p l.s l.i
