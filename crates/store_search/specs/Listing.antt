-- A search over the tries of a store: what it finds, and what it lists of that. Assumes nothing: these are definitions.
use Rattle.std.specs.Prelude.{ℕ, ◌*◌, ◌≤◌, ◌<◌, ◌≡◌, true, List, [], ◌∷◌, map, length, take, ltb, Result, Ok, Err}
use Rattle.buffer.specs.Lists.{all, sum, flat}
use Rattle.buffer.specs.Splice.{splice}
use Rattle.matcher.specs.Form.{pattern_form, pattern_number}
use Rattle.rows.specs.Entry.{row}
use Rattle.rows.specs.Order.{entry_order}
use Rattle.rows.specs.Sorted.{sorted}
use Rattle.trie_theory.specs.Forest.{Key}
use Rattle.trie_theory.specs.Dimensions.{root}
use Rattle.trie_theory.specs.Search.{found, nodes_entered}
use Rattle.entries.specs.Query.{Query, reaches, wants}
use Rattle.gather.specs.KeySlots.{has_slot}
use Rattle.gather.specs.Walks.{joined}
use Rattle.search.specs.Steps.{key_row}
use Rattle.search.specs.Asks.{asks}
use Rattle.search.specs.declared.query.Query as Code
use Rattle.book.specs.Front.{Front, need_limit}
use Rattle.book.specs.Tries.{Tries}
use Rattle.book.specs.Replies.{Reply, reply, first_of, ◌when◌}
use Rattle.book.specs.Image.{Holds}
use Rattle.book.specs.Good.{GoodTries}
use Rattle.book.specs.Searching.{nodes_of}
use Rattle.book.specs.FromTries.{found_in}
use Rattle.store.specs.Parts.{up_to}
use Rattle.store.specs.Said.{refused}
use Rattle.store.specs.declared.refusal.Refusal.{Refusal}
use Rattle.store_search.specs.declared.query.Found.{Found}

-- the numbers that a query's own checks decide: 8, 7, 10
unfoldable pub query_number : Query → ℕ
query_number q = first_of (pattern_number (pattern_form q.pattern) ∷ (10 when ltb q.high q.low) ∷ [])

-- the query's own checks give the query q, or the refusal that they decide
abbrev pub Asked : Query → Result Code.Query Refusal → Type 0
Asked q (Ok x) = (asks x ≡ q) × (query_number q ≡ 0)
Asked q (Err e) = (refused e ≡ reply (query_number q) 0 0) × (0 < query_number q)

-- what an accepted search says
abbrev pub found_said : Found → Reply
found_said f = reply 0 f.rows f.nodes

-- the keys that a search finds in the first k tries, and the nodes that it enters there
unfoldable pub found_up_to : Query → ℕ → Tries → List Key
found_up_to q k t = flat (map (found (reaches q) (wants q) root []) (up_to k t))

unfoldable pub nodes_up_to : Query → ℕ → Tries → ℕ
nodes_up_to q k t = sum (nodes_entered (reaches q) root []) (up_to k t)

-- The first k tries of a store of l levels, on any bytes: r rows of some keys are found, of which the answer s' has the first `room`, and d nodes are
-- entered. Where the store holds good tries, these are what a search of them finds
pub record TriesSearched (q : Query) (store : List ℕ) (m l k room : ℕ) (s s' : List ℕ) (r d : ℕ) : Type 0 where
  pub put : List Key
  pub fit : all has_slot put ≡ true
  pub rows_are : r ≡ length put
  pub few_rows : r ≤ k * need_limit
  pub few_nodes : d ≤ k * need_limit
  pub long : length s' ≡ length s
  pub writes : s' ≡ splice s 0 (joined key_row (take room put))
  pub are : (f : Front) (t : Tries) → f.M ≡ m → f.L ≡ l → GoodTries f t → Holds store f t → (put ≡ found_up_to q k t) × (d ≡ nodes_up_to q k t)

-- the rows, in their sequence, and the nodes entered, of a search of the good tries that a store of l levels holds
pub record RowsOf (q : Query) (store : List ℕ) (m l : ℕ) (rows : List (List ℕ)) (nodes : ℕ) : Type 0 where
  pub front : Front
  pub tries : Tries
  pub m_is : front.M ≡ m
  pub l_is : front.L ≡ l
  pub good : GoodTries front tries
  pub holds : Holds store front tries
  pub rows_are : rows ≡ map row (sorted entry_order (found_in q l tries))
  pub nodes_are : nodes ≡ nodes_of q l tries
