-- Where the tries of a store lie, counted: the small trie is 0, level i is i + 1. Assumes nothing: these are definitions.
use Rattle.std.specs.Prelude.{ℕ, zero, suc, ◌+◌, ◌*◌, ◌^◌, ◌≤◌, ◌≡◌, List, []}
use Rattle.trie_theory.specs.Forest.{Forest}
use Rattle.trie_theory.specs.Encode.{encode}
use Rattle.trie_read.specs.Shape.{part}
use Rattle.book.specs.Front.{Front, front_room, entry_room, need}
use Rattle.book.specs.Tries.{Tries, every}
use Rattle.book.specs.Image.{Holds}
use Rattle.book.specs.Good.{GoodTries}

-- the bytes that the store keeps for trie k, and where they begin
abbrev pub region_size : ℕ → ℕ → ℕ
region_size m zero = entry_room * m
region_size m (suc i) = entry_room * m * 2 ^ i

abbrev pub region_at : ℕ → ℕ → ℕ
region_at m zero = front_room
region_at m (suc i) = front_room + entry_room * m * 2 ^ i

-- trie k, and the first k of them
abbrev pub numbered : Tries → ℕ → Forest
numbered t zero = t.small
numbered t (suc i) = t.level i

abbrev pub up_to : ℕ → Tries → List Forest
up_to zero t = []
up_to (suc k) t = every k t

-- The part that trie k takes of its region in the store s, of l levels. Where s holds good tries, its bytes are the trie's: none, if it is empty
pub record PartOf (s : List ℕ) (m l k from to : ℕ) : Type 0 where
  pub begins : from ≡ region_at m k
  pub ordered : from ≤ to
  pub inside : to ≤ region_at m k + region_size m k
  pub within : to ≤ need m l
  pub holds : (f : Front) (t : Tries) → f.M ≡ m → f.L ≡ l → GoodTries f t → Holds s f t → part from to s ≡ encode (numbered t k)

-- .. and t is that part
pub record TrieIs (s : List ℕ) (m l k : ℕ) (t : List ℕ) : Type 0 where
  pub from : ℕ
  pub to : ℕ
  pub part_of : PartOf s m l k from to
  pub is : t ≡ part from to s
