-- One element set is one element spliced.
use mathlib.Core.Path.{refl}
use Rattle.linespell.proofs.Writing.{put_one}
use Rattle.linespell.proofs.spell.Line.put_byte.Goals as goal

pub returns : goal.returns
returns c = put_one c.requires refl refl refl
