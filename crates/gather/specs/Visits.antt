-- What a walk over tries visits: each key that has a slot, with the nodes above it. Assumes nothing: these are definitions.
use Rattle.std.specs.Prelude.{ℕ, suc, ◌+◌, ◌*◌, ◌≤◌, ◌<◌, ◌≡◌, Bool, false, ◌&&◌, List, [], ◌∷◌, ◌++◌, map, length, take, get_or, eqb, leb, Option, MatchOption}
use Rattle.buffer.specs.Sizes.{word_limit}
use Rattle.buffer.specs.Lists.{pick}
use Rattle.rows.specs.Sizes.{node_limit}
pub use Rattle.rows.specs.Sizes.{node_size}
use Rattle.trie_theory.specs.Forest.{Strings, Key, Forest, none, leaf, inner, join, under}
use Rattle.trie_theory.specs.Size.{height}
use Rattle.trie_theory.specs.Encode.{Regular, encode}
use Rattle.gather.specs.KeySlots.{has_slot, has_room, key_slot}
use Rattle.gather.specs.Walks.{PutBy, known_strings, Deeper, SuffixKeys}
use Rattle.gather.specs.declared.known.Below.{Below}
use Rattle.gather.specs.declared.output.Output.{Output}

-- the most bytes for all nodes of a way
abbrev pub way_size : ℕ
way_size = node_size * node_limit

-- the bytes of a node of a kind at which the bytes k are known: positions are counted from 1
unfoldable pub node_of : Strings → ℕ → List ℕ
node_of k kind = kind ∷ get_or (map (λ s. suc (length s)) k) 1 0 ∷ get_or (map (λ s. suc (length s)) k) 0 0 ∷ []

-- A node is entered and noted, if its strings have room
pub record Noted (x : Below) (value path : List ℕ) (kind : ℕ) (k w k' w' : List ℕ) (y : Below) : Type 0 where
  pub deeper : Deeper x.known value path k k' y.known
  pub one_more : y.nodes ≡ x.nodes + 1
  pub way : take (node_size * y.nodes) w' ≡ take (node_size * x.nodes) w ++ node_of (known_strings y.known k') kind

pub record Descended (x : Below) (value path : List ℕ) (kind : ℕ) (k w k' w' : List ℕ) (r : Option Below) : Type 0 where
  pub is : MatchOption r (has_room x.known.value x.known.path value path ≡ false) (Noted x value path kind k w k' w')
  pub kept : known_strings x.known k' ≡ known_strings x.known k
  pub way_kept : take (node_size * x.nodes) w' ≡ take (node_size * x.nodes) w

-- the visit of a key below n nodes, whose bytes the way has
pub record Visit : Type 0 where
  pub nodes : ℕ
  pub way : List ℕ
  pub key : Key

abbrev pub visit : ℕ → List ℕ → Key → Visit
visit n way x = record { nodes = n; way = way; key = x }

-- a visit that a walk makes: its key has a slot, and its nodes fit
abbrev pub made : Visit → Bool
made x = has_slot x.key && (eqb (length x.way) (node_size * x.nodes) && leb x.nodes node_limit)

-- what is written for it, from the number of nodes, the way and the slot
abbrev pub row_of : (ℕ → List ℕ → List ℕ → List ℕ) → Visit → List ℕ
row_of row x = row x.nodes x.way (key_slot x.key)

-- the visits of tries below n nodes, where the bytes k are known above them
unfoldable pub visits : ℕ → List ℕ → Strings → Forest → List Visit
visits n way k none = []
visits n way k (leaf s ts more) =
    map (visit (n + 1) (way ++ node_of (join k s) 0)) (pick has_slot (map (under (join k s)) ts)) ++ visits n way k more
visits n way k (inner d s children more) =
    visits (n + 1) (way ++ node_of (join k s) (suc d)) (join k s) children ++ visits n way k more

-- those of suffixes in the bytes t, and of tries
pub record SuffixVisits (n : ℕ) (way : List ℕ) (k : Strings) (t : List ℕ) (vs : List Visit) : Type 0 where
  pub keys : List Key
  pub has : SuffixKeys k t keys
  pub is : vs ≡ map (visit n way) keys

pub record TrieVisits (n : ℕ) (way : List ℕ) (k : Strings) (t : List ℕ) (vs : List Visit) : Type 0 where
  pub tries : Forest
  pub regular : Regular 2 tries
  pub high : height tries + n ≤ node_limit
  pub bytes : t ≡ encode tries
  pub is : vs ≡ visits n way k tries

-- what a walk over the bytes t asks for: room for rows of a width, and a counter that does not overflow
pub record Ready (width : ℕ) (t : List ℕ) (o : Output) : Type 0 where
  pub fits : o.room * width ≤ length o.bytes.now
  pub few : o.rows + length t < word_limit

-- what it does: the rows of visits are put behind the others; the key buffer has the same known bytes. Where `Has` tells the visits, they are these
pub record Walked (row : ℕ → List ℕ → List ℕ → List ℕ) (Has : List Visit → Type 0) (x : Below) (t : List ℕ) (o o' : Output) (k k' : List ℕ) : Type 0 where
  pub few : o'.rows ≤ o.rows + length t
  pub room : o'.room ≡ o.room
  pub same_reference : o'.bytes.ghost_name ≡ o.bytes.ghost_name
  pub put : PutBy made (row_of row) Has x.known.value x.known.path 0 o.room o.rows o.bytes.now k o'.bytes.now k' o'.rows
