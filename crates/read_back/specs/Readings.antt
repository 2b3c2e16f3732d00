-- The records of a trie read back, in the trie's own sequence. Assumes nothing: these are definitions.
use Rattle.std.specs.Prelude.{ℕ, ◌-◌, ◌*◌, ◌≤◌, ◌≡◌, Bool, true, List, [], ◌∷◌, ◌++◌, map, length, take, replicate, eqb}
use Rattle.buffer.specs.Lists.{all, flat}
use Rattle.buffer.specs.Splice.{splice}
use Rattle.rows.specs.Sizes.{row_size, node_limit, record_size}
use Rattle.trie_theory.specs.Forest.{Key, Forest, keys}
use Rattle.trie_theory.specs.Dimensions.{root}
use Rattle.trie_theory.specs.Sound.{Sound}
use Rattle.trie_theory.specs.Size.{height}
use Rattle.trie_theory.specs.Encode.{Regular, encode}
use Rattle.trie_theory.specs.Walk.{walk}
use Rattle.gather.specs.KeySlots.{has_slot, key_row}
use Rattle.book.specs.Records.{walk_bytes}
pub use Rattle.gather.specs.Visits.{node_size, way_size}

-- the record of the key whose slot is k, below n nodes that have the bytes `way`: the row, the number of nodes, their bytes, zeros
unfoldable pub record_bytes : ℕ → List ℕ → List ℕ → List ℕ
record_bytes n way k = take row_size k ++ (n ∷ (way ++ replicate (node_size * (node_limit - n)) 0))

abbrev pub is_record : List ℕ → Bool
is_record r = eqb (length r) record_size

-- the record of a key of a trie: the row, then the nodes from the root to its leaf
unfoldable pub trie_record : Forest → Key → List ℕ
trie_record f x = key_row x ++ walk_bytes (walk [] f x)

-- the bytes t are those of a sound trie whose keys have slots
pub record TrieBytes (t : List ℕ) (f : Forest) : Type 0 where
  pub regular : Regular 2 f
  pub sound : Sound 2 root f
  pub high : height f ≤ node_limit
  pub slots : all has_slot (keys [] f) ≡ true
  pub bytes : t ≡ encode f

-- THE CONTRACT of `read_trie`, on any bytes t: there are r records, no more than t has bytes, and s' has the first `room` of them, where s was. Where the
-- bytes are those of a trie, they are the records of its keys, in the trie's own sequence
pub record TrieRead (t : List ℕ) (room : ℕ) (s s' : List ℕ) (r : ℕ) : Type 0 where
  pub put : List (List ℕ)
  pub fit : all is_record put ≡ true
  pub count : r ≡ length put
  pub few : r ≤ length t
  pub long : length s' ≡ length s
  pub writes : s' ≡ splice s 0 (flat (take room put))
  pub are : (f : Forest) → TrieBytes t f → put ≡ map (trie_record f) (keys [] f)
