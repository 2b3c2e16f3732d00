-- Zeros, and the numbers over them.
use native.Mathlib.Omega.{arith}
use Rattle.book.proofs.Front.{within}
use Rattle.store.proofs.Fresh.{written, need_least}
use Rattle.store.proofs.setup.write_fresh.Goals as goal

pub put32-requires : goal.put32-requires
put32-requires c = omega (arith, need_least _ _ _ c.needed-n.ensures, c.requires.1, c.needed-n.ensures, c.clear.auto.s)

pub put32-requires-2 : goal.put32-requires-2
put32-requires-2 c = omega (arith, need_least _ _ _ c.needed-n.ensures, c.requires.1, c.needed-n.ensures, c.clear.auto.s, c.put32.auto.s)

pub overflow_cast-front-3 : goal.overflow_cast-front-3
overflow_cast-front-3 c = omega (arith, (within _ _ _ c.requires.0).t_high)

pub put32-requires-3 : goal.put32-requires-3
put32-requires-3 c = omega (arith, need_least _ _ _ c.needed-n.ensures, c.requires.1, c.needed-n.ensures, c.clear.auto.s, c.put32.auto.s, c.put32-2.auto.s)

pub returns : goal.returns
returns c = written _ _ _ _ _ _ _ _ _ c.needed-n.ensures (omega (arith, c.needed-n.ensures, c.requires.1)) c.clear.ensures c.put32.ensures c.put32-2.ensures c.put32-3.ensures
