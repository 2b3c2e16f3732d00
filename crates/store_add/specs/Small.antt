-- What an addition to the small trie leaves. Assumes nothing: these are definitions.
use Rattle.std.specs.Prelude.{ℕ, ◌+◌, ◌*◌, ◌≤◌, ◌≡◌, List, length}
use Rattle.buffer.specs.Splice.{splice, region}
use Rattle.rows.specs.Sizes.{node_limit}
use Rattle.trie_theory.specs.Forest.{Key, Forest}
use Rattle.trie_theory.specs.Dimensions.{root}
use Rattle.trie_theory.specs.SmallTrie.{added}
use Rattle.trie_theory.specs.Sound.{Ascending}
use Rattle.trie_theory.specs.Size.{height}
use Rattle.trie_theory.specs.Encode.{Regular, encode}
use Rattle.trie_add.specs.Added.{growth_limit}
use Rattle.book.specs.Front.{front_room, entry_room}
use Rattle.book.specs.Image.{padded}

-- its region is written and nothing else, and a trie of `used` bytes there is the trie with the key x added, where there is room for it
pub record SmallGrown (m used : ℕ) (x : Key) (store after : List ℕ) : Type 0 where
  pub own : List ℕ
  pub size : length own ≡ entry_room * m
  pub is : after ≡ splice store front_room own
  pub are : (f : Forest) → Regular 2 f → Ascending root f → height f ≤ node_limit → used ≡ length (encode f) → used + growth_limit x ≤ entry_room * m
      → region store front_room (entry_room * m) ≡ padded (entry_room * m) (encode f) → own ≡ padded (entry_room * m) (encode (added root f x))
