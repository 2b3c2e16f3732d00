-- How many bytes an addition takes, one name each. Assumes nothing: these are definitions.
use Rattle.std.specs.Prelude.{ℕ, ◌+◌, ◌*◌}
use Rattle.trie_read.specs.Sizes.{head_size, leaf_size}

-- the most bytes that the addition of a key makes tries longer, beside those of the key: a new parent and a new leaf
abbrev pub growth_size : ℕ
growth_size = head_size + leaf_size

-- the fronts of a new parent and of the node below it: their strings are those of one node
abbrev pub fronts_size : ℕ
fronts_size = 2 * head_size + 2 * 255
