-- What a search, a reading back and an addition's lookup answer, from the tries that a store holds: what the code goes by. Of the tries of a
-- book these are the book's answers (proofs/FromTries.antt). Assumes nothing: these are definitions.
use Rattle.std.specs.Prelude.{ℕ, Bool, cond, List, [], map, ltb}
use Rattle.buffer.specs.Lists.{any, flat}
use Rattle.rows.specs.Sizes.{row_size, record_size}
use Rattle.rows.specs.Entry.{Entry, row}
use Rattle.rows.specs.Order.{entry_order}
use Rattle.rows.specs.Sorted.{sorted}
use Rattle.trie_theory.specs.Forest.{Forest, keys}
use Rattle.trie_theory.specs.Dimensions.{root}
use Rattle.trie_theory.specs.Lookup.{member}
use Rattle.trie_theory.specs.Search.{found}
use Rattle.entries.specs.Keys.{entry_key}
unfoldable pub use Rattle.entries.specs.Keys.{key_entry}
use Rattle.entries.specs.Query.{Query, reaches, wants}
use Rattle.book.specs.Tries.{Tries, every}
use Rattle.book.specs.Searching.{nodes_of}
use Rattle.book.specs.Records.{record_of}
use Rattle.book.specs.Replies.{Result}
use Rattle.book.specs.Step.{list}

-- the entries of a trie, and those that a search finds in it, in the trie's own sequence
unfoldable pub entries_of : Forest → List Entry
entries_of f = map key_entry (keys [] f)

unfoldable pub found_of : Query → Forest → List Entry
found_of q f = map key_entry (found (reaches q) (wants q) root [] f)

-- the same of the small trie and the levels below l
unfoldable pub entries_in : ℕ → Tries → List Entry
entries_in l t = flat (map entries_of (every l t))

unfoldable pub found_in : Query → ℕ → Tries → List Entry
found_in q l t = flat (map (found_of q) (every l t))

-- the entry is looked up in each
unfoldable pub has_in : ℕ → Tries → Entry → Bool
has_in l t e = any (λ f. member root f (entry_key e)) (every l t)

-- an accepted search: what was found, sorted, and the nodes entered
unfoldable pub search_tries : Query → ℕ → Tries → List ℕ → Result
search_tries q l t answer = list row_size (map row (sorted entry_order (found_in q l t))) (nodes_of q l t) answer

-- an accepted reading back of level i, of l levels
unfoldable pub read_tries : ℕ → ℕ → Tries → List ℕ → Result
read_tries i l t answer = list record_size (cond (ltb i l) (map (record_of (t.level i)) (sorted entry_order (entries_of (t.level i)))) []) 0 answer
