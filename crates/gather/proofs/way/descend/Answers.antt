-- The node is noted where it is entered.
use mathlib.Core.Path.{refl}
use Rattle.gather.proofs.Noting.{noted}
use Rattle.gather.proofs.way.descend.Goals as goal

pub returns : goal.returns
returns c = noted (rw c.in_ok-known.was at c.enter.ensures) c.enter.array_long c.told-way c.requires (rw c.kind.ensures at c.note.ensures) refl refl
