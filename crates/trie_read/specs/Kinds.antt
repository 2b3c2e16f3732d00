-- Kinds of nodes and dimensions in the words of the theory of tries, which has numbers for them. Assumes nothing: these are definitions.
use Rattle.std.specs.Prelude.{ℕ, zero, suc, ◌-◌}
use Prim.Native.Nat.{zero-le, suc-le-suc}
use Rattle.trie_read.specs.declared.kind.Dimension.{Dimension}
use Rattle.trie_read.specs.declared.kind.Dimension.TheVariants.{Value, Path, Other}
use Rattle.trie_read.specs.declared.kind.Kind.{Kind}
use Rattle.trie_read.specs.declared.kind.Kind.TheVariants.{Leaf, Inner}

-- a dimension's number: 0 the value, 1 the path, 2 or more another
abbrev pub number_of : Dimension → ℕ
number_of Value = 0
number_of Path = 1
number_of (Other b) = suc (suc (b.byte - 3))

-- the kind of a node with this first byte: 0 a leaf, one more than the dimension's number for an inner node
abbrev pub kind_of_byte : ℕ → Kind
kind_of_byte zero = Leaf
kind_of_byte (suc zero) = Inner Value
kind_of_byte (suc (suc zero)) = Inner Path
kind_of_byte (suc (suc (suc b))) = Inner (Other (record { byte = suc (suc (suc b)); above = suc-le-suc (suc-le-suc (suc-le-suc zero-le)) }))

abbrev pub byte_of_kind : Kind → ℕ
byte_of_kind Leaf = 0
byte_of_kind (Inner Value) = 1
byte_of_kind (Inner Path) = 2
byte_of_kind (Inner (Other b)) = b.byte
