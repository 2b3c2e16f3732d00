-- The sizes of what is spelled, one name each; those of a row are those of crate rows. Assumes nothing: these are definitions.
use Rattle.std.specs.Prelude.{ℕ, ◌+◌, ◌*◌}
pub use Rattle.rows.specs.Sizes.{value_size, reference_size, path_limit, reference_at, length_at, path_at, row_size}
use Rattle.linefields.specs.Sizes.{reference_digits}

-- the most decimal digits of a number below 2^64
abbrev pub decimal_digits : ℕ
decimal_digits = 20

-- room for any reply, and for any row: a mark and a comma, fields with a byte behind each
abbrev pub reply_limit : ℕ
reply_limit = 2 + 3 * (decimal_digits + 1)

abbrev pub row_line_limit : ℕ
row_line_limit = 2 + (decimal_digits + 1) + (reference_digits + 1) + (path_limit + 1)
