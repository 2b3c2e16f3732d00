-- As many bytes for each entry, and the front's.
use native.Mathlib.Omega.{arith}
use Rattle.book.specs.Front.{need}
use Rattle.store.proofs.front.Front.needed.Goals as goal

pub returns : goal.returns
unfolding need
returns c = rw c.held_limit.ensures.0 (omega arith)
