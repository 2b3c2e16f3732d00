-- The size of a line. Assumes nothing: this is a definition.
use Rattle.std.specs.Prelude.{ℕ}

-- the most bytes of a line
abbrev pub line_limit : ℕ
line_limit = 512
