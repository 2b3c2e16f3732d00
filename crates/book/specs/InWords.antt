-- Demand 3 in its own words, for the call that comes after any list of calls that began with an accepted setup (proved in
-- proofs/InWords.antt). `accepted` is told from the calls and the numbers that came back.
use Rattle.std.specs.Prelude.{ℕ, ◌-◌, ◌*◌, ◌^◌, ◌≤◌, ◌<◌, ◌≡◌, ◌↔◌, Bool, true, ◌&&◌, List, [], map, length}
use Rattle.buffer.specs.Lists.{All, flat, count}
use Rattle.buffer.specs.Splice.{splice}
use Rattle.matcher.specs.Form.{pattern_form, is_fine}
use Rattle.rows.specs.Sizes.{row_size, record_size}
use Rattle.rows.specs.Entry.{Entry, row}
use Rattle.rows.specs.Order.{entry_order}
use Rattle.rows.specs.Sorted.{ascending}
use Rattle.trie_theory.specs.Dimensions.{root}
use Rattle.trie_theory.specs.Search.{Node, nodes_in}
use Rattle.entries.specs.Query.{Query, matches_entry}
use Rattle.entries.specs.Branch.{ToEnter}
use Rattle.book.specs.Front.{need}
use Rattle.book.specs.Digits.{level}
use Rattle.book.specs.Book.{Book, has, distinct}
use Rattle.book.specs.Tries.{every, level_trie, tries}
use Rattle.book.specs.Records.{record_of}
use Rattle.book.specs.Replies.{reply, Result, result}
use Rattle.book.specs.Calls.{Call, add, search, read_level}
use Rattle.book.specs.Ran.{Did, Ran, Begun}
use Rattle.book.specs.Accepted.{accepted}

-- `found` are precisely the entries of es that pass the test, each once, by value, then path, then reference
pub record Precisely (test : Entry → Bool) (es found : List Entry) : Type 0 where
  pub these : (e : Entry) → has found e ≡ test e && has es e
  pub once : distinct found ≡ true
  pub in_sequence : ascending entry_order found ≡ true

-- a sound search with enough answer space, where b has been accepted and `memory` is what the calls before left
pub record SoundSearch (b : Book) (memory : List ℕ) (q : Query) (answer : List ℕ) (r : Result) : Type 0 where
  pub lent : ℕ
  pub after : List ℕ
  pub did : Did memory (search lent q answer) r after
  pub enough : need b.M b.L ≤ lent
  pub formed : is_fine (pattern_form q.pattern) ≡ true
  pub range : q.low ≤ q.high
  pub space : count (matches_entry q) b.entries * row_size ≤ length answer

-- it lists these rows, and says their number; what comes after the last row is unchanged
pub record Lists (q : Query) (answer : List ℕ) (b : Book) (r : Result) : Type 0 where
  pub found : List Entry
  pub precisely : Precisely (matches_entry q) b.entries found
  pub number : r.reply.number ≡ 0
  pub rows : r.reply.first ≡ length found
  pub listed : r.answer ≡ splice answer 0 (flat (map row found))

-- the nodes of all tries of a book, as a search comes to them: the roots, and each child with the bytes known there
unfoldable pub nodes_of_tries : Book → List Node
nodes_of_tries b = flat (map (nodes_in root []) (every b.L (tries b)))

-- it enters a child exactly when some path, of any length, and value beginning with the bytes known there could match, and each root (`ToEnter` of
-- entries), and n is the number of nodes so entered
pub record Enters (q : Query) (b : Book) (n : ℕ) : Type 0 where
  pub entered : Node → Bool
  pub exactly : All (λ x. (entered x ≡ true) ↔ ToEnter q x) (nodes_of_tries b)
  pub number : n ≡ count entered (nodes_of_tries b)

-- reading a level back gives the record of each of its entries, none lost or added
pub record Reads (i : ℕ) (answer : List ℕ) (b : Book) (r : Result) : Type 0 where
  pub found : List Entry
  pub precisely : Precisely (λ e. true) (level b.M i b.entries) found
  pub says :
      r ≡ result (reply 0 (length found) 0)
      (splice answer 0 (flat (map (record_of (level_trie b.τ (level b.M i b.entries))) found)))

-- what holds of the next call, where b has been accepted and `memory` is what the calls before left
pub record InWords (b : Book) (memory : List ℕ) : Type 0 where
  pub accepted_once : distinct b.entries ≡ true
  -- a sound search with enough answer space lists precisely the entries whose path matches and whose value lies in range
  pub search_lists : {q : Query} {answer : List ℕ} {r : Result} → SoundSearch b memory q answer r → Lists q answer b r
  -- THE PRUNING: it enters a branch exactly when some path, of any length, and value beginning with the bytes known there could match, and
  -- reports the number of nodes so entered
  pub pruning : {q : Query} {answer : List ℕ} {r : Result} → SoundSearch b memory q answer r → Enters q b r.reply.second
  -- "full" is said only with M × 2^L − 1 entries held
  pub full_only :
      {n : ℕ} {e : Entry} {r : Result} {end : List ℕ} → Did memory (add n e) r end → r.reply.number ≡ 9 →
      length b.entries ≡ b.M * 2 ^ b.L - 1
  -- "already there" only of an entry accepted since the latest accepted setup
  pub there_only :
      {n : ℕ} {e : Entry} {r : Result} {end : List ℕ} → Did memory (add n e) r end → r.reply.number ≡ 100 →
      has b.entries e ≡ true
  pub reads_level :
      {n i : ℕ} {answer : List ℕ} {r : Result} {end : List ℕ} → Did memory (read_level n i answer) r end →
      need b.M b.L ≤ n → i < b.L → length (level b.M i b.entries) * record_size ≤ length answer → Reads i answer b r

abbrev pub Demand3InWords : Type 0
Demand3InWords =
    (memory between : List ℕ) (calls : List Call) (results : List Result) →
    Ran memory calls results between → Begun calls results → InWords (accepted calls results) between
