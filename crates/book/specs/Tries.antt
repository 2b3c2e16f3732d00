-- The tries of a book: the small trie and one for each level. Assumes nothing: these are definitions.
use Rattle.std.specs.Prelude.{ℕ, zero, suc, List, [], ◌∷◌, ◌++◌, map}
use Rattle.rows.specs.Entry.{Entry}
use Rattle.rows.specs.Order.{entry_order}
use Rattle.rows.specs.Sorted.{sorted}
use Rattle.trie_theory.specs.Forest.{Forest}
use Rattle.trie_theory.specs.Level.{level_of}
use Rattle.trie_theory.specs.SmallTrie.{small_trie}
use Rattle.entries.specs.Keys.{entry_key}
use Rattle.book.specs.Digits.{level, small}
use Rattle.book.specs.Book.{Book}

-- the two dimensions, value and path
abbrev pub dimensions : ℕ
dimensions = 2

-- The tries that a store can hold, whatever book they are of: each call that reads a store goes by these alone
pub record Tries : Type 0 where
  pub small : Forest
  pub level : ℕ → Forest

-- the small trie and those of the levels below l, level 0 first
unfoldable pub every : ℕ → Tries → List Forest
every zero t = t.small ∷ []
every (suc l) t = every l t ++ (t.level l ∷ [])

-- a level is a trie of its entries as a set: age plays no part in it, so they are taken in row sequence
unfoldable pub level_trie : ℕ → List Entry → Forest
level_trie τ es = level_of dimensions τ (map entry_key (sorted entry_order es))

-- the last entries, as many as held ÷ M leaves over, added in sequence make the small trie; the earlier ones lie in the levels
unfoldable pub tries : Book → Tries
tries b =
    record {
      small = small_trie (map entry_key (small b.M b.entries));
      level = λ i. level_trie b.τ (level b.M i b.entries);
    }
