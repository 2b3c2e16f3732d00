-- No more than are held, no more than are found, or the lesser of both.
use native.Mathlib.Omega.{arith}
use Rattle.store.proofs.ListedRows.{found_room, found_over}
use Rattle.store.proofs.listing.overfull.Goals as goal

pub returns-then-rows-room : goal.returns-then-rows-room
returns-then-rows-room g c = found_room c.args.held c.args.room c.walk-rows.ensures (omega (arith, c.if-rows-room.true))

pub returns : goal.returns
returns g c = found_over c.args.held c.args.room c.walk-rows.ensures _ c.if-held-room.false (omega (arith, c.if-rows-room.false)) c.min.ensures
