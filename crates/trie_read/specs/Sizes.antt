-- The sizes of a node's parts in two dimensions, one name each. Assumes nothing: these are definitions.
use Rattle.std.specs.Prelude.{ℕ, ◌+◌}
use Rattle.buffer.specs.Sizes.{reference_size}

-- a node before its strings: kind, two lengths, and the length of its body in 4 bytes
abbrev pub head_size : ℕ
head_size = 1 + 2 + 4

-- a suffix before its strings: two lengths and a reference
abbrev pub suffix_size : ℕ
suffix_size = 2 + reference_size

-- a new leaf beside its strings, which are those of its only key: the suffix has none left
abbrev pub leaf_size : ℕ
leaf_size = head_size + suffix_size
