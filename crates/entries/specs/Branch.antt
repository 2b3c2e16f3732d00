-- The rule of entering a branch, and that the test `reaches` decides it: it holds exactly if some path, of any length, and some value, beginning
-- with the bytes known, match (proved in proofs/Branch.antt). Assumes nothing: these are definitions.
use Rattle.std.specs.Prelude.{ℕ, ◌^◌, ◌<◌, ◌≡◌, ◌↔◌, true, List, ◌++◌}
use Rattle.buffer.specs.Lists.{all}
use Rattle.buffer.specs.Numbers.{bytes_of, byte}
use Rattle.matcher.specs.Continued.{Continued}
use Rattle.rows.specs.Sizes.{value_size}
use Rattle.trie_theory.specs.Forest.{Strings}
use Rattle.trie_theory.specs.Strings.{at}
use Rattle.trie_theory.specs.Search.{Node, top, child}
use Rattle.entries.specs.Query.{Query, in_range, reaches}

-- the bytes known are the first of a value of 64 bits that is in range
pub record ValueContinued (q : Query) (known : List ℕ) : Type 0 where
  pub value : ℕ
  pub small : value < 2 ^ 64
  pub is_in_range : in_range q value ≡ true
  pub more : List ℕ
  pub goes_on : known ++ more ≡ bytes_of value_size value

-- some path and some value that begin with the bytes known could match
pub record CouldMatch (q : Query) (known : Strings) : Type 0 where
  pub value : ValueContinued q (at 0 known)
  pub path : Continued q.pattern (at 1 known)

-- document 01's rule of entering: every root; a child exactly when some path, of any length, and some value that begin with the bytes known there
-- could match
abbrev pub ToEnter : Query → Node → Type 0
ToEnter q top = Unit {0}
ToEnter q (child known) = CouldMatch q known

abbrev pub BranchDecided : Type 0
BranchDecided = (q : Query) (known : Strings) → all byte (at 0 known) ≡ true → (reaches q known ≡ true) ↔ CouldMatch q known
