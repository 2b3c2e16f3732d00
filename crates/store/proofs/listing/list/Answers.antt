-- Too many rows for the answer, or the rows.
use native.Mathlib.Omega.{arith}
use mathlib.Core.Path.{ap}
use Prim.Native.Nat.{ℕ, ◌/◌}
use lib.ListN.{length}
use Rattle.store.proofs.ListedRows.{lists_over}
use Rattle.store.proofs.listing.list.Goals as goal

pub returns-in-Some : goal.returns-in-Some
returns-in-Some g c =
    lists_over g.W.Walk.WIDTH (g.W.Walk.Rows c.args.walk.now) c.args.held _ c.args.answer.now c.in-Some.rows (omega (arith, g.met.W.Walk.wide)) c.in-Some.ensures
    (ap (λ (w : ℕ). length c.args.answer.now / w) c.width.ensures)
