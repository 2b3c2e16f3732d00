-- What makes tries sound: the one predicate that levels and small tries meet. Lookups need of siblings only that their
-- branching bytes differ; that they ascend is said apart, and so is that the leaves of a small trie have all bytes of a key,
-- and that the values in a leaf do not descend.
use Rattle.std.specs.Prelude.{ℕ, ◌≤◌, ◌≡◌, true, List, [], ◌∷◌, length}
use Rattle.trie_theory.specs.Forest.{Strings, Key, Forest, none, leaf, inner, tops}
use Rattle.buffer.specs.Lists.{All}
use Rattle.buffer.specs.Numbers.{number}
use Rattle.trie_theory.specs.Strings.{at, total}
use Rattle.trie_theory.specs.Dimensions.{Above, root, below, branching}
use Rattle.trie_theory.specs.SmallTrie.{precedes}

-- below a node that branches in d, strings have a byte there
unfoldable pub Starts : Above → Strings → Type 0
Starts root s = Unit {0}
Starts (below d) s = at d s ≡ [] → ⊥

-- a key has n strings
abbrev pub Wide : ℕ → Key → Type 0
Wide n x = length x.strings ≡ n

-- a node with the strings s before its later siblings (at the root there are none): n strings, the branching byte, which no later one has
pub record Node (n : ℕ) (above : Above) (s : Strings) (more : Forest) : Type 0 where
  pub wide : length s ≡ n
  pub starts : Starts above s
  pub apart : All (λ t. branching above s ≡ branching above t → ⊥) (tops more)

-- every node is such a node, every leaf has a suffix, every inner node two or more children
unfoldable pub Sound : ℕ → Above → Forest → Type 0
Sound n above none = Unit {0}
Sound n above (leaf s ts more) = Node n above s more × (1 ≤ length ts) × All (Wide n) ts × Sound n above more
Sound n above (inner d s children more) =
    Node n above s more × (2 ≤ length (tops children)) × Sound n (below d) children × Sound n above more

-- siblings stand ascending by their branching bytes
unfoldable pub Ascending : Above → Forest → Type 0
Ascending above none = Unit {0}
Ascending above (leaf s ts more) = (precedes above s more ≡ true) × Ascending above more
Ascending above (inner d s children more) = (precedes above s more ≡ true) × Ascending (below d) children × Ascending above more

-- a suffix has no byte: one path and value for each leaf, with all their references
unfoldable pub EmptySuffixes : Forest → Type 0
EmptySuffixes none = Unit {0}
EmptySuffixes (leaf s ts more) = All (λ t. total t.strings ≡ 0) ts × EmptySuffixes more
EmptySuffixes (inner d s children more) = EmptySuffixes children × EmptySuffixes more

-- keys in a sequence in which their values (dimension 0) do not descend
unfoldable pub Rising : List Key → Type 0
Rising [] = Unit {0}
Rising (x ∷ xs) = All (λ y. number (at 0 x.strings) ≤ number (at 0 y.strings)) xs × Rising xs

-- the suffixes of each leaf are such keys: a level's stand in row sequence, a small trie's have no byte
unfoldable pub LeavesRise : Forest → Type 0
LeavesRise none = Unit {0}
LeavesRise (leaf s ts more) = Rising ts × LeavesRise more
LeavesRise (inner d s children more) = LeavesRise children × LeavesRise more
