-- What a search of the book lists, and how many nodes it enters. Assumes nothing: these are definitions.
use Rattle.std.specs.Prelude.{ℕ, List, []}
use Rattle.buffer.specs.Lists.{pick, sum}
use Rattle.rows.specs.Entry.{Entry}
use Rattle.rows.specs.Order.{entry_order}
use Rattle.rows.specs.Sorted.{sorted}
use Rattle.trie_theory.specs.Dimensions.{root}
use Rattle.trie_theory.specs.Search.{nodes_entered}
use Rattle.entries.specs.Query.{Query, matches_entry, reaches}
use Rattle.book.specs.Book.{Book}
use Rattle.book.specs.Tries.{Tries, every, tries}

-- the entries whose path matches and whose value is in range, in row sequence
unfoldable pub matching : Query → List Entry → List Entry
matching q es = sorted entry_order (pick (matches_entry q) es)

-- the nodes entered over all tries: the roots of the non-empty ones, and each child that can be continued
unfoldable pub nodes_of : Query → ℕ → Tries → ℕ
nodes_of q l t = sum (nodes_entered (reaches q) root []) (every l t)

unfoldable pub nodes : Query → Book → ℕ
nodes q b = nodes_of q b.L (tries b)
