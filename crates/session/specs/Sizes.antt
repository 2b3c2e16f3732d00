-- The memory of `fieldlog`, and what a line can print at most. Assumes nothing: these are definitions.
use Rattle.std.specs.Prelude.{ℕ, ◌+◌, ◌*◌}
use Rattle.logline.specs.Sizes.{reply_limit, row_line_limit}

-- the store, and the answer buffer, which has room for every row that such a store can hold
abbrev pub store_size : ℕ
store_size = 65536

abbrev pub answer_size : ℕ
answer_size = 16384

-- the rows that the answer buffer has room for, and the bytes that they and the reply print
abbrev pub answer_rows : ℕ
answer_rows = 71

abbrev pub print_limit : ℕ
print_limit = answer_rows * row_line_limit + reply_limit
