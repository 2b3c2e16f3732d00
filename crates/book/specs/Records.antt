-- The records of a level read back. Assumes nothing: these are definitions.
use Rattle.std.specs.Prelude.{ℕ, ◌-◌, ◌*◌, cond, List, [], ◌∷◌, ◌++◌, map, length, get_or, replicate, ltb}
use Rattle.buffer.specs.Lists.{flat}
use Rattle.rows.specs.Sizes.{node_limit}
use Rattle.rows.specs.Entry.{Entry, row}
use Rattle.rows.specs.Order.{entry_order}
use Rattle.rows.specs.Sorted.{sorted}
use Rattle.trie_theory.specs.Forest.{Forest}
use Rattle.trie_theory.specs.Walk.{Step, walk}
use Rattle.entries.specs.Keys.{entry_key}
use Rattle.book.specs.Digits.{level}
use Rattle.book.specs.Book.{Book}
use Rattle.book.specs.Tries.{level_trie}

-- a node in three bytes: 1 for V, 2 for path, 0 for a leaf; path position; value position
unfoldable pub step_bytes : Step → List ℕ
step_bytes s = s.kind ∷ get_or s.positions 1 0 ∷ get_or s.positions 0 0 ∷ []

-- nodes as a record has them: their number in one byte, three bytes a node, zeros up to 210 nodes
unfoldable pub walk_bytes : List Step → List ℕ
walk_bytes steps = length steps ∷ (flat (map step_bytes steps) ++ replicate (3 * (node_limit - length steps)) 0)

-- the record of an entry in a trie: the row, then the nodes from the root to the entry's leaf
unfoldable pub record_of : Forest → Entry → List ℕ
record_of t e = row e ++ walk_bytes (walk [] t (entry_key e))

-- the entries of a level read back, in row sequence; a level numbered L or above has none
unfoldable pub level_read : ℕ → Book → List Entry
level_read i b = cond (ltb i b.L) (sorted entry_order (level b.M i b.entries)) []

unfoldable pub records : ℕ → Book → List (List ℕ)
records i b = map (record_of (level_trie b.τ (level b.M i b.entries))) (level_read i b)
