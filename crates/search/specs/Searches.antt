-- What a search of tries in bytes finds: the keys, whose rows it writes, and the number of nodes entered. Assumes nothing: these are definitions.
use Rattle.std.specs.Prelude.{ℕ, ◌+◌, ◌≤◌, ◌≡◌, true, List, [], map, length}
use Rattle.buffer.specs.Lists.{all, All, pick}
use Rattle.matcher.specs.Continued.{FirstBytes}
use Rattle.rows.specs.Sizes.{value_size, node_limit}
use Rattle.trie_theory.specs.Forest.{Strings, Key, Forest, none, leaf, inner, join, under, keys}
use Rattle.trie_theory.specs.Strings.{at}
use Rattle.trie_theory.specs.Dimensions.{Above, root, below}
use Rattle.trie_theory.specs.Sound.{Sound, Rising, LeavesRise}
use Rattle.trie_theory.specs.Size.{height}
use Rattle.trie_theory.specs.Search.{found, nodes_entered}
use Rattle.trie_theory.specs.Encode.{Regular, encode}
use Rattle.entries.specs.Query.{Query, reaches, wants}
use Rattle.trie_read.specs.Shape.{Fixed}
use Rattle.trie_read.specs.Kinds.{number_of}
use Rattle.trie_read.specs.declared.kind.Kind.{Kind}
use Rattle.trie_read.specs.declared.kind.Kind.TheVariants.{Leaf, Inner}
use Rattle.trie_read.specs.Suffixes.{suffixes_bytes}
use Rattle.gather.specs.KeySlots.{ended_limit, has_slot}
use Rattle.gather.specs.Walks.{written, Put}
use Rattle.entries.specs.declared.known.Known.{Known}
use Rattle.gather.specs.declared.output.Output.{Output}
use Rattle.search.specs.Steps.{takes, key_row}

-- the path bytes of a key are the first of a formed path and its end byte; of an entry's key they are all of them
abbrev pub OfPath : Key → Type 0
OfPath x = FirstBytes (at 1 x.strings)

-- Rows are put into the answer s behind n others, and nodes are counted from c on: r and d. Where `Has` tells keys and nodes, they are these
pub record Searched (Has : List Key → ℕ → Type 0) (v p room n c : ℕ) (s k s' k' : List ℕ) (r d : ℕ) : Type 0 where
  pub rows : Put key_row (λ ks. ⊥) v p 0 room n s k s' k' r
  pub nodes : ℕ
  pub count : d ≡ c + nodes
  pub are : (ks : List Key) (e : ℕ) → Has ks e → (rows.put ≡ ks) × (nodes ≡ e)

-- THE TRIE in the bytes t, sound, of keys that have slots and formed paths, their values not descending in a leaf: the keys that a search finds, and the nodes that it enters
pub record TrieFound (q : Query) (t : List ℕ) (ks : List Key) (e : ℕ) : Type 0 where
  pub tries : Forest
  pub regular : Regular 2 tries
  pub sound : Sound 2 root tries
  pub high : height tries ≤ node_limit
  pub slots : all has_slot (keys [] tries) ≡ true
  pub paths : All OfPath (keys [] tries)
  pub rises : LeavesRise tries
  pub bytes : t ≡ encode tries
  pub is : ks ≡ found (reaches q) (wants q) root [] tries
  pub entered : e ≡ nodes_entered (reaches q) root [] tries

-- The contract of `search_trie`, on any bytes t: rows of some keys are found behind those of the output, and those that have room are written at their
-- places, whatever stands before them, and nothing else; d nodes are entered. Where the bytes are those of a trie, these are what a search of it finds
pub record TrieSearched (q : Query) (t : List ℕ) (o o' : Output) (d : ℕ) : Type 0 where
  pub put : List Key
  pub fit : all has_slot put ≡ true
  pub rows_are : o'.rows ≡ o.rows + length put
  pub few_rows : o'.rows ≤ o.rows + length t
  pub few_nodes : d ≤ length t
  pub room : o'.room ≡ o.room
  pub same_reference : o'.bytes.ghost_name ≡ o.bytes.ghost_name
  pub long : length o'.bytes.now ≡ length o.bytes.now
  pub writes : o'.bytes.now ≡ written key_row 0 o.room o.rows put o.bytes.now
  pub are : (ks : List Key) (e : ℕ) → TrieFound q t ks e → (put ≡ ks) × (d ≡ e)

-- ---- what the parts of the walk promise each other

-- strings that have room in a slot
abbrev pub Short : Strings → Type 0
Short k = (length (at 0 k) ≤ value_size) × (length (at 1 k) ≤ ended_limit)

-- the strings known at a node: the path's are the first bytes of one
abbrev pub AtNode : Strings → Type 0
AtNode k = Short k × FirstBytes (at 1 k)

-- every node has such strings, with the bytes k known above the tries
unfoldable pub NodesFit : Strings → Forest → Type 0
NodesFit k none = Unit {0}
NodesFit k (leaf s ts more) = AtNode (join k s) × NodesFit k more
NodesFit k (inner d s children more) = AtNode (join k s) × NodesFit (join k s) children × NodesFit k more

-- the same of suffixes, and of tries
pub record SuffixesFound (q : Query) (k : Strings) (t : List ℕ) (ks : List Key) (e : ℕ) : Type 0 where
  pub suffixes : List Key
  pub fixed : All Fixed suffixes
  pub paths : All OfPath (map (under k) suffixes)
  pub rises : Rising suffixes
  pub bytes : t ≡ suffixes_bytes suffixes
  pub is : ks ≡ pick (takes q) (map (under k) suffixes)
  pub entered : e ≡ 0

pub record TriesFound (q : Query) (above : Above) (depth : ℕ) (k : Strings) (t : List ℕ) (ks : List Key) (e : ℕ) : Type 0 where
  pub tries : Forest
  pub regular : Regular 2 tries
  pub sound : Sound 2 above tries
  pub high : height tries ≤ depth
  pub nodes_fit : NodesFit k tries
  pub paths : All OfPath (keys k tries)
  pub rises : LeavesRise tries
  pub bytes : t ≡ encode tries
  pub is : ks ≡ found (reaches q) (takes q) above k tries
  pub entered : e ≡ nodes_entered (reaches q) above k tries

-- .. of the body of a node
abbrev pub BodyFound : Query → Kind → (depth : ℕ) → Strings → (t : List ℕ) → (ks : List Key) → (e : ℕ) → Type 0
BodyFound q Leaf depth k t ks e = SuffixesFound q k t ks e
BodyFound q (Inner d) depth k t ks e = TriesFound q (below (number_of d)) depth k t ks e

-- What the walk over the bytes t does, where the bytes of x are known: no more rows than bytes are added to the output, and no more nodes, d, are entered
pub record Walked (Has : List Key → ℕ → Type 0) (x : Known) (t : List ℕ) (o o' : Output) (k k' : List ℕ) (d : ℕ) : Type 0 where
  pub few_rows : o'.rows ≤ o.rows + length t
  pub few_nodes : d ≤ length t
  pub room : o'.room ≡ o.room
  pub same_reference : o'.bytes.ghost_name ≡ o.bytes.ghost_name
  pub searched : Searched Has x.value x.path o.room o.rows 0 o.bytes.now k o'.bytes.now k' o'.rows d
