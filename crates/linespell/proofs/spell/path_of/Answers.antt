-- A length above 200 is as good as 200: the row ends there.
use Rattle.linespell.proofs.Writing.{path_clipped}
use Rattle.linespell.proofs.spell.path_of.Goals as goal

pub returns : goal.returns
returns c = path_clipped c.args.row.now _ _ c.requires c.from.ensures c.min-length.ensures
