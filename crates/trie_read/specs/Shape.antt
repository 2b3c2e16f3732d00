-- Two dimensions: the words of the theory of tries for a value and a path. Assumes nothing: these are definitions.
use Rattle.std.specs.Prelude.{ℕ, ◌-◌, List, [], ◌∷◌, take, drop, Option, Some, None}
use Rattle.trie_theory.specs.Forest.{Key}
use Rattle.trie_theory.specs.Dimensions.{Above, root, below}
use Rattle.trie_theory.specs.Sound.{Wide}
use Rattle.trie_theory.specs.Encode.{WholeReference}
use Rattle.trie_read.specs.Kinds.{number_of}
use Rattle.trie_read.specs.declared.kind.Dimension.{Dimension}

-- a key, or a suffix: two strings, and a reference of 20 bytes
abbrev pub Fixed : Key → Type 0
Fixed x = Wide 2 x × WholeReference x

-- the key of a value, a path with its end byte, and a reference
abbrev pub key_of : List ℕ → List ℕ → List ℕ → Key
key_of value path reference = record { strings = value ∷ path ∷ []; reference = reference }

-- the bytes of a part `&t[a..e]`
abbrev pub part : ℕ → ℕ → List ℕ → List ℕ
part a e t = take (e - a) (drop a t)

-- what stands above tries: a node that branches in a dimension, or none
abbrev pub above_of : Option Dimension → Above
above_of None = root
above_of (Some d) = below (number_of d)
