-- The sizes of fields, one name each. Assumes nothing: these are definitions.
use Rattle.std.specs.Prelude.{ℕ, ◌*◌}
pub use Rattle.buffer.specs.Sizes.{reference_size}

-- the hex digits of a reference
abbrev pub reference_digits : ℕ
reference_digits = 2 * reference_size
