-- The rows written are sorted where they stand.
use Rattle.store.proofs.ListedRows.{fills}
use Rattle.store.proofs.listing.fill.Goals as goal

pub returns : goal.returns
returns g c = fills c.walk-found.ensures c.requires _ _ c.min-rows.ensures (rw c.width.ensures at c.sort.ensures)
