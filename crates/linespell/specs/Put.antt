-- Bytes put into a line. Assumes nothing: this is a definition.
use Rattle.std.specs.Prelude.{ℕ, ◌≡◌, List, length}
use Rattle.linespell.specs.Spelling.{Wrote}
use Rattle.linespell.specs.declared.spell.Line.{Line}

-- b was put behind what the line has so far: the bytes it is written into are the same ones, and as many
pub record Put (line : Line) (b : List ℕ) (after : Line) : Type 0 where
  pub wrote : Wrote line.out.now line.at b after.out.now after.at
  pub kept : length after.out.now ≡ length line.out.now
  pub same : after.out.ghost_name ≡ line.out.ghost_name
