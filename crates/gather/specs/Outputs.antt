-- What putting a row into an output does. Assumes nothing: these are definitions.
use Rattle.std.specs.Prelude.{ℕ, ◌+◌, ◌*◌, ◌≤◌, ◌<◌, ◌≡◌, cond, List, length, ltb}
use Rattle.buffer.specs.Sizes.{word_limit}
use Rattle.buffer.specs.Splice.{splice}
use Rattle.gather.specs.declared.output.Output.{Output}

-- there is room for rows of a width, and one more can be counted
abbrev pub CanPut : ℕ → Output → Type 0
CanPut width o = (o.room * width ≤ length o.bytes.now) × (o.rows + 1 < word_limit)

-- a row of a width stands behind the others, if there is room, and is counted; the output is over the same bytes
pub record RowPut (width : ℕ) (row : List ℕ) (o o' : Output) : Type 0 where
  pub bytes : o'.bytes.now ≡ cond (ltb o.rows o.room) (splice o.bytes.now (o.rows * width) row) o.bytes.now
  pub same_reference : o'.bytes.ghost_name ≡ o.bytes.ghost_name
  pub room : o'.room ≡ o.room
  pub rows : o'.rows ≡ o.rows + 1
