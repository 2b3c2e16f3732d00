-- The sizes of what an entry has, which every layer shares, the block of a move, and the limits of a word and of 4 bytes. Assumes nothing: these are definitions.
use Rattle.std.specs.Prelude.{ℕ}

-- bytes of a value, and of a reference
abbrev pub value_size : ℕ
value_size = 8

abbrev pub reference_size : ℕ
reference_size = 20

-- the most bytes of a path, and of a pattern
abbrev pub path_limit : ℕ
path_limit = 200

-- bytes that a move towards the end takes in one step
abbrev pub move_block : ℕ
move_block = 512

-- the first number that has no 64 bits
abbrev pub word_limit : ℕ
word_limit = 18446744073709551616

-- the first number that has no 4 bytes
abbrev pub four_byte_limit : ℕ
four_byte_limit = 4294967296
