-- What the tries are that a store holds after our calls: what the code may rest on beside the bytes (proved in proofs/Good.antt).
-- Assumes nothing: these are definitions.
use Rattle.std.specs.Prelude.{ℕ, ◌*◌, ◌^◌, ◌≤◌, ◌<◌, ◌≡◌, true, [], length}
use Rattle.buffer.specs.Lists.{All, all}
use Rattle.rows.specs.Sizes.{node_limit}
use Rattle.trie_theory.specs.Forest.{Forest, keys}
use Rattle.trie_theory.specs.Dimensions.{root}
use Rattle.trie_theory.specs.Sound as Trie
use Rattle.trie_theory.specs.Entries as Key
use Rattle.trie_theory.specs.Size.{height}
use Rattle.trie_theory.specs.Encode.{encode}
use Rattle.book.specs.Front.{Front, entry_room}
use Rattle.book.specs.Book.{Book, Sound, front, formed}
use Rattle.book.specs.FromTries.{entries_of}
use Rattle.book.specs.Tries.{Tries, dimensions, tries}

-- a sound trie of keys of allowed entries, whose siblings ascend, in whose leaves values do not descend, at most 210 nodes deep, with room in its region
pub record Good (room : ℕ) (t : Forest) : Type 0 where
  pub sound : Trie.Sound dimensions root t
  pub ascending : Trie.Ascending root t
  pub rises : Trie.LeavesRise t
  pub entries : All Key.OfEntry (keys [] t)
  pub allowed : all formed (entries_of t) ≡ true
  pub high : height t ≤ node_limit
  pub fits : length (encode t) ≤ room

-- the small trie has one path and value per leaf
pub record GoodTries (f : Front) (t : Tries) : Type 0 where
  pub small : Good (entry_room * f.M) t.small
  pub empty_suffixes : Trie.EmptySuffixes t.small
  pub levels : (i : ℕ) → i < f.L → Good (entry_room * f.M * 2 ^ i) (t.level i)

abbrev pub TriesGood : Type 0
TriesGood = (b : Book) → Sound b → GoodTries (front b) (tries b)
