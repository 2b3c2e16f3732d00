-- What an addition in place promises: the bytes of tries side by side become those of the tries with the key added. Assumes nothing: these
-- are definitions.
use Rattle.std.specs.Prelude.{ℕ, suc, ◌+◌, ◌-◌, ◌≤◌, ◌<◌, ◌≡◌, true, List, [], ◌∷◌, ◌++◌, map, length, Option}
use Rattle.buffer.specs.Lists.{flat}
use Rattle.buffer.specs.Splice.{region}
use Rattle.buffer.specs.Sizes.{four_byte_limit}
use Rattle.trie_theory.specs.Forest.{Key, Forest, none, leaf, inner}
use Rattle.trie_theory.specs.Strings.{at}
use Rattle.trie_theory.specs.Dimensions.{below}
use Rattle.trie_theory.specs.SmallTrie.{meets, added}
use Rattle.trie_theory.specs.Sound.{Ascending}
use Rattle.trie_theory.specs.Size.{height}
use Rattle.trie_theory.specs.Encode.{Regular, encode, node_bytes, suffix_bytes}
use Rattle.trie_read.specs.Shape.{above_of}
use Rattle.trie_read.specs.Sizes.{head_size}
use Rattle.trie_read.specs.Kinds.{kind_of_byte}
use Rattle.trie_read.specs.Heads.{front, body_of}
use Rattle.trie_read.specs.Places.{top}
use Rattle.trie_read.specs.declared.kind.Dimension.{Dimension}
use Rattle.trie_read.specs.declared.kind.Kind.{Kind}
use Rattle.trie_read.specs.declared.node_place.NodePlace.{NodePlace}
use Rattle.trie_add.specs.Sizes.{growth_size}
use Rattle.trie_add.specs.Replaced.{Replaced}

-- the most bytes that the addition of a key makes tries longer
abbrev pub growth_limit : Key → ℕ
growth_limit x = growth_size + length (at 0 x.strings) + length (at 1 x.strings)

-- s has room for it behind `used` bytes, and lengths in s are numbers of four bytes
abbrev pub HasRoom : List ℕ → ℕ → Key → Type 0
HasRoom s used x = (used + growth_limit x ≤ length s) × (length s < four_byte_limit)

-- the tries between `off` and `stop`, where the node above branches in `above` and at most `depth` nodes stand one below the other
pub record Added (s : List ℕ) (off stop used : ℕ) (above : Option Dimension) (depth : ℕ) (x : Key) (s' : List ℕ) (r : ℕ) : Type 0 where
  pub little : r ≤ growth_limit x
  pub are : (f : Forest) → Regular 2 f → Ascending (above_of above) f → height f ≤ depth → region s off (stop - off) ≡ encode f
      → Replaced s off stop used (encode (added (above_of above) f x)) s' r

-- the first of tries, without its siblings; and its siblings
unfoldable pub single : Forest → Forest
single none = none
single (leaf s ts more) = leaf s ts none
single (inner d s children more) = inner d s children none

unfoldable pub siblings : Forest → Forest
siblings none = none
siblings (leaf s ts more) = more
siblings (inner d s children more) = more

-- the first byte of the first
unfoldable pub kind_of : Forest → ℕ
kind_of none = 0
kind_of (leaf s ts more) = 0
kind_of (inner d s children more) = suc d

-- the body of the first with a key added, of which y remains behind the first's strings
unfoldable pub grown_body : Forest → Key → List ℕ
grown_body none y = []
grown_body (leaf s ts more) y = flat (map suffix_bytes (ts ++ (y ∷ [])))
grown_body (inner d s children more) y = encode (added (below d) children y)

-- the first of f has its kind and its strings at these places, its body up to `next`
pub record PlacesOf (node : ℕ) (kind : Kind) (start body next : ℕ) (f : Forest) : Type 0 where
  pub some : f ≡ none → ⊥
  pub kind_is : kind ≡ kind_of_byte (kind_of f)
  pub value_is : start ≡ node + head_size + length (at 0 (top f))
  pub path_is : body ≡ start + length (at 1 (top f))
  pub body_is : next ≡ body + length (body_of f)

-- the node at these places, which has the key's branching byte
pub record AddedAt (s : List ℕ) (node : NodePlace) (used : ℕ) (above : Option Dimension) (depth : ℕ) (x : Key) (s' : List ℕ) (r : ℕ) : Type 0 where
  pub little : r ≤ growth_limit x
  pub are : (f : Forest) → Regular 2 f → Ascending (above_of above) f → height f ≤ depth → region s node.at (node.next - node.at) ≡ encode (single f)
      → PlacesOf node.at node.kind node.path node.body node.next f → meets (above_of above) (top f) x.strings ≡ true
      → Replaced s node.at node.next used (encode (added (above_of above) (single f) x)) s' r

-- .. with whose strings the key agrees, y remaining
pub record Grown (s : List ℕ) (node : NodePlace) (used depth : ℕ) (y : Key) (s' : List ℕ) (r : ℕ) : Type 0 where
  pub little : r ≤ growth_limit y
  pub are : (f : Forest) (above : Option Dimension) → Regular 2 f → Ascending (above_of above) f → height f ≤ depth → node.kind ≡ kind_of_byte (kind_of f) → (f ≡ none → ⊥)
      → region s node.at (node.body - node.at) ≡ front (kind_of f) (top f) (node.next - node.body) → region s node.body (node.next - node.body) ≡ body_of f
      → Replaced s node.at node.next used (node_bytes (kind_of f) (top f) (grown_body f y)) s' r
