-- What the functions that look for positions promise. Assumes nothing: these are definitions.
use Rattle.std.specs.Prelude.{ℕ, zero, suc, ◌+◌, ◌≤◌, ◌<◌, ◌≡◌, Bool, List, [], length, get_or}
use Rattle.std.proofs.Math.Option.{Option, none, some}
use Rattle.rows.specs.Sizes.{length_at}
use Rattle.trie_theory.specs.Forest.{Key}
use Rattle.trie_theory.specs.Strings.{at}
use Rattle.trie_theory.specs.Dimensions.{Above, root, below}
use Rattle.trie_theory.specs.Position.{shared}
use Rattle.trie_theory.specs.Level.{choice}
use Rattle.trie_read.specs.Kinds.{number_of}
use Rattle.trie_read.specs.declared.kind.Kind.{Kind}
use Rattle.trie_read.specs.declared.kind.Kind.TheVariants.{Leaf, Inner}

-- byte i of slot k
abbrev pub slot_byte : List (List ℕ) → ℕ → ℕ → ℕ
slot_byte rs k i = get_or (get_or rs k []) i 0

-- the strings that begin at `start` in slots have the bytes of the first from `from` up to j, and one has another at j where that is below the limit
pub record Alike (rs : List (List ℕ)) (start from limit j : ℕ) : Type 0 where
  pub low : from ≤ j
  pub high : j ≤ limit
  pub alike : (k i : ℕ) → k < length rs → from ≤ i → i < j → slot_byte rs k (start + i) ≡ slot_byte rs 0 (start + i)
  pub apart : j < limit → (k : ℕ) × (k < length rs) × (slot_byte rs k (start + j) ≡ slot_byte rs 0 (start + j) → ⊥)

-- r is the least path length of slots
pub record Least (rs : List (List ℕ)) (r : ℕ) : Type 0 where
  pub low : (k : ℕ) → k < length rs → r ≤ slot_byte rs k length_at
  pub met : (k : ℕ) × (k < length rs) × (r ≡ slot_byte rs k length_at)

-- one test for each dimension
unfoldable pub passes : Bool → Bool → ℕ → Bool
passes value path zero = value
passes value path (suc d) = path

-- the dimension in which a node of a kind branches; none for a leaf
abbrev pub branch_of : Kind → Option ℕ
branch_of Leaf = none
branch_of (Inner d) = some (number_of d)

-- what stands above branches in one of two dimensions, or is nothing
abbrev pub OfTwo : Above → Type 0
OfTwo root = Unit {0}
OfTwo (below d) = d < 2

-- how a set of keys is split below what stands above
pub record Split (τ : ℕ) (above : Above) (ks : List Key) (kind : Kind) (value path : ℕ) : Type 0 where
  pub kind_is : branch_of kind ≡ choice 2 τ above ks
  pub value_is : value ≡ length (at 0 (shared ks))
  pub path_is : path ≡ length (at 1 (shared ks))
