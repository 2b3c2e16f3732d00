-- The records of a trie of a store, and what a reading back lists of them: definitions, and the one law that the listing's impl names. Assumes nothing.
use Rattle.std.specs.Prelude.{ℕ, ◌≡◌, refl, ◌≤◌, List, [], map}
use borrow.Author.Tests.{leb-true}
use Rattle.rows.specs.Sizes.{row_size, record_size}
use Rattle.buffer.specs.Lists.{All}
use Rattle.rows.specs.Order.{entry_order}
use Rattle.rows.specs.Sorted.{sorted}
use Rattle.trie_theory.specs.Forest.{Forest, keys}
use Rattle.trie_theory.specs.Entries.{OfEntry}
use Rattle.book.specs.Replies.{Reply, reply}
use Rattle.book.specs.Records.{record_of}
use Rattle.book.specs.FromTries.{entries_of}
use Rattle.read_back.specs.Readings.{TrieBytes}

-- the bytes t are those of a trie of keys of entries
pub record Level (t : List ℕ) (f : Forest) : Type 0 where
  pub trie : TrieBytes t f
  pub entries : All OfEntry (keys [] f)

-- the records, in row sequence, of a trie whose bytes are t; the second value is zero
pub record RecordsOf (t : List ℕ) (records : List (List ℕ)) (second : ℕ) : Type 0 where
  pub trie : Forest
  pub level : Level t trie
  pub records_are : records ≡ map (record_of trie) (sorted entry_order (entries_of trie))
  pub second_is : second ≡ 0

-- a reading back says how many records there are
abbrev pub records_read : ℕ → Reply
records_read n = reply 0 n 0

-- a record begins with a row
pub record_wide : row_size ≤ record_size
record_wide = leb-true row_size record_size refl
