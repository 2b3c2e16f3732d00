-- The sizes of lines and of what is spelled, of the crates below, and those of a row.
pub use Rattle.rows.specs.Sizes.{value_size, reference_size, path_limit, reference_at, length_at, path_at, row_size}
pub use Rattle.linecut.specs.Sizes.{line_limit}
pub use Rattle.linefields.specs.Sizes.{reference_digits}
pub use Rattle.linespell.specs.Sizes.{decimal_digits, reply_limit, row_line_limit}
