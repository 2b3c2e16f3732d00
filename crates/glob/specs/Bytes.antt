-- The bytes with a meaning of their own. Assumes nothing: these are definitions.
use Rattle.std.specs.Prelude.{ℕ}

-- `/`
abbrev pub slash : ℕ
slash = 0x2F

-- `*`
abbrev pub star : ℕ
star = 0x2A
