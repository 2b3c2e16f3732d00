-- Demand 3 in its own words, from demand 3.
use Prim.Native.Nat.{ℕ, zero, suc, ◌-◌, ◌*◌, ◌^◌, ◌≤◌, ◌<◌}
use mathlib.Core.Path.{◌≡◌, refl, sym, ap, ◌∙◌, subst}
use mathlib.Core.Bool.{Bool, true, false}
use mathlib.Core.List.{List, [], ◌∷◌, map}
use native.Mathlib.Omega.{arith}
use lib.ListN.{length, length-map}
use borrow.Author.Tests.{eqb-true, lt-ltb}
use Rattle.buffer.specs.Lists.{pick, count, flat}
use Rattle.buffer.specs.Splice.{splice}
use Rattle.buffer.proofs.Sums.{length_pick}
use Rattle.rows.specs.Sizes.{row_size, record_size}
use Rattle.rows.specs.Entry.{Entry, row}
use Rattle.rows.specs.Order.{entry_order}
use Rattle.rows.specs.Sorted.{sorted}
use Rattle.rows.proofs.Sorted.{length_sorted, ascending_sorted}
use Rattle.rows.proofs.Rows.{entry_order_lem}
use Rattle.trie_theory.specs.Search.{admitted}
use Rattle.entries.specs.Query.{Query, matches_entry, reaches}
use Rattle.book.specs.Front.{need, capacity, full}
use Rattle.book.specs.Digits.{level, level_size, level_start}
use Rattle.book.specs.Book.{Book, blank, fresh, held, front, has, distinct}
use Rattle.book.specs.Searching.{matching, nodes}
use Rattle.book.specs.Records.{level_read, records}
use Rattle.book.specs.Replies.{Reply, reply, Result, result, setup_number, add_number, search_number, read_number}
use Rattle.book.specs.Calls.{Call, setup, add, search, read_level}
use Rattle.book.specs.Step.{Outcome, outcome, unless, admit, step, answers, after}
use Rattle.book.specs.Image.{HoldsBook}
use Rattle.book.specs.Ran.{Did}
use Rattle.book.specs.Accepted.{noted, noted_from}
use Rattle.book.specs.InWords.{Precisely, SoundSearch, Lists, Enters, Reads, InWords, Demand3InWords}
use Rattle.book.proofs.Front.{long_enough}
use Rattle.book.proofs.Numbers.{search_none, read_none, only_full, add_below}
use Rattle.book.proofs.Book.{search_book, read_book}
use Rattle.book.proofs.Listed.{has_sorted, has_pick, distinct_sorted, distinct_pick, distinct_part}
use Rattle.book.proofs.Listing.{list_room}
use Rattle.book.proofs.OneCall.{one_call}
use Rattle.book.proofs.OverTries.{nodes_entered_lem, nodes_decided}
use Rattle.book.proofs.Demand3.{demand_3}

-- ---- the book after a call is told from the number that came back

setup_noted : (b : Book) (n m l t : ℕ) → (step b (setup n m l t)).book ≡ noted b (setup n m l t) (step b (setup n m l t)).result.reply.number
unfolding step
setup_noted b n m l t = go (setup_number n m l t)
  where
    o : ℕ → Outcome
    o k = unless k [] b (outcome (result (reply 0 0 0) []) (fresh m l t))

    go : (k : ℕ) → (o k).book ≡ noted b (setup n m l t) (o k).result.reply.number
    go zero = refl
    go (suc k) = refl

add_noted : (b : Book) (n : ℕ) (e : Entry) → (step b (add n e)).book ≡ noted b (add n e) (step b (add n e)).result.reply.number
unfolding step
add_noted b n e = go (add_number n (front b) e) (has b.entries e)
  where
    o : ℕ → Bool → Outcome
    o k w = unless k [] b (admit w e b)

    go : (k : ℕ) (w : Bool) → (o k w).book ≡ noted b (add n e) (o k w).result.reply.number
    go zero true = refl
    go zero false = refl
    go (suc k) w = refl

step_noted : (b : Book) (c : Call) → (step b c).book ≡ noted b c (step b c).result.reply.number
step_noted b (setup n m l t) = setup_noted b n m l t
step_noted b (add n e) = add_noted b n e
step_noted b (search n q answer) = search_book b n q answer
step_noted b (read_level n i answer) = read_book b n i answer

after_noted : (b : Book) (calls : List Call) → after b calls ≡ noted_from b calls (answers b calls)
unfolding after answers noted_from
after_noted b [] = refl
after_noted b (c ∷ cs) =
    after_noted (step b c).book cs ∙ ap (λ (x : Book). noted_from x cs (answers (step b c).book cs)) (step_noted b c)

-- ---- what a number says

record Told (b : Book) (e : Entry) (r : Reply) : Type 0 where
  nine : r.number ≡ 9 → full (front b) ≡ true
  hundred : r.number ≡ 100 → has b.entries e ≡ true

add_told : (b : Book) (n : ℕ) (e : Entry) → Told b e (step b (add n e)).result.reply
unfolding step
add_told b n e = go (add_number n (front b) e) refl (has b.entries e) refl
  where
    o : ℕ → Bool → Outcome
    o k w = unless k [] b (admit w e b)

    go : (k : ℕ) → add_number n (front b) e ≡ k → (w : Bool) → has b.entries e ≡ w → Told b e (o k w).result.reply
    go (suc k) z w q = record { nine = λ h. only_full n (front b) e (z ∙ h); hundred = λ h. absurd (let l = add_below n (front b) e in omega arith) }
    go zero z true q = record { nine = λ h. absurd (let y : ◌≡◌ {A = ℕ} 100 9 = h in omega arith); hundred = λ h. q }
    go zero z false q = record { nine = λ h. absurd (let y : ◌≡◌ {A = ℕ} 0 9 = h in omega arith); hundred = λ h. absurd (let y : ◌≡◌ {A = ℕ} 0 100 = h in omega arith) }

-- ---- a sound search, and a reading back, with enough answer space

length_matching : (q : Query) (es : List Entry) → length (matching q es) ≡ count (matches_entry q) es
unfolding matching
length_matching q es = length_sorted entry_order (pick (matches_entry q) es) ∙ length_pick (matches_entry q) es

search_told : (b : Book) (n : ℕ) (q : Query) (answer : List ℕ) → search_number n (front b) q ≡ 0 → count (matches_entry q) b.entries * row_size ≤ length answer
    → let found = matching q b.entries in
    (step b (search n q answer)).result ≡ result (reply 0 (length found) (nodes q b)) (splice answer 0 (flat (map row found)))
unfolding step
search_told b n q answer z space =
    let found = matching q b.entries in
    rw z (list_room row_size (map row found) (nodes q b) answer (rw (length-map found row, length_matching q b.entries) space)
    ∙ ap (λ (k : ℕ). result (reply 0 k (nodes q b)) (splice answer 0 (flat (map row found)))) (length-map found row))

read_told : (b : Book) (n i : ℕ) (answer : List ℕ) → read_number n (front b) ≡ 0 → length (level_read i b) * record_size ≤ length answer
    → (step b (read_level n i answer)).result ≡ result (reply 0 (length (level_read i b)) 0) (splice answer 0 (flat (records i b)))
unfolding step
read_told b n i answer z space =
    let size : length (records i b) ≡ length (level_read i b) = unfold records in length-map (level_read i b) _ in
    rw z (list_room record_size (records i b) 0 answer (rw size space)
    ∙ ap (λ (k : ℕ). result (reply 0 k 0) (splice answer 0 (flat (records i b)))) size)

level_read_lem : (i : ℕ) (b : Book) → i < b.L → level_read i b ≡ sorted entry_order (level b.M i b.entries)
unfolding level_read
level_read_lem i b h = rw (lt-ltb i b.L h)

matching_precise : (q : Query) (es : List Entry) → distinct es ≡ true → Precisely (matches_entry q) es (matching q es)
unfolding matching
matching_precise q es d =
    let p = matches_entry q in
    record {
      these = λ e. has_sorted (pick p es) e ∙ has_pick p e es;
      once = distinct_sorted (pick p es) (distinct_pick p es d);
      in_sequence = ascending_sorted entry_order _ entry_order_lem (pick p es);
    }

sorted_precise : (es : List Entry) → distinct es ≡ true → Precisely (λ e. true) es (sorted entry_order es)
sorted_precise es d = record { these = λ e. has_sorted es e; once = distinct_sorted es d; in_sequence = ascending_sorted entry_order _ entry_order_lem es }

level_distinct : (m i : ℕ) (es : List Entry) → distinct es ≡ true → distinct (level m i es) ≡ true
unfolding level
level_distinct m i es d = distinct_part (level_size m i es) (level_start m i es) es d

-- ---- THE WORDS

module _ {memory : List ℕ} {b : Book} (h : HoldsBook memory b) where
  search_is : {q : Query} {answer : List ℕ} {r : Result} → SoundSearch b memory q answer r
      → let found = matching q b.entries in r ≡ result (reply 0 (length found) (nodes q b)) (splice answer 0 (flat (map row found)))
  search_is {q} {answer} d =
      (one_call (search d.lent q answer) h d.did).result
      ∙ search_told b d.lent q answer (search_none d.lent (front b) q (long_enough d.lent b h.sound d.enough) d.formed d.range) d.space

  search_lists : {q : Query} {answer : List ℕ} {r : Result} → SoundSearch b memory q answer r → Lists q answer b r
  search_lists {q} {answer} d =
      let e = search_is d in
      record {
        found = matching q b.entries;
        precisely = matching_precise q b.entries h.sound.once;
        number = ap (λ (x : Result). x.reply.number) e;
        rows = ap (λ (x : Result). x.reply.first) e;
        listed = ap (λ (x : Result). x.answer) e;
      }

  pruning : {q : Query} {answer : List ℕ} {r : Result} → SoundSearch b memory q answer r → Enters q b r.reply.second
  pruning {q} d =
      record {
        entered = admitted (reaches q);
        exactly = nodes_decided b h.sound q;
        number = ap (λ (x : Result). x.reply.second) (search_is d) ∙ nodes_entered_lem b h.sound q;
      }

  reads_level : {n i : ℕ} {answer : List ℕ} {r : Result} {end : List ℕ} → Did memory (read_level n i answer) r end
      → need b.M b.L ≤ n → i < b.L → length (level b.M i b.entries) * record_size ≤ length answer → Reads i answer b r
  unfolding records
  reads_level {n} {i} {answer} d enough low space =
      let es = level b.M i b.entries in
      let found : level_read i b ≡ sorted entry_order es = level_read_lem i b low in
      record {
        found = level_read i b;
        precisely = rw found (sorted_precise es (level_distinct b.M i b.entries h.sound.once));
        says = (one_call (read_level n i answer) h d).result ∙ read_told b n i answer (read_none n (front b) (long_enough n b h.sound enough)) (rw (found, length_sorted entry_order es) space);
      }

  full_only : {n : ℕ} {e : Entry} {r : Result} {end : List ℕ} → Did memory (add n e) r end → r.reply.number ≡ 9
      → length b.entries ≡ b.M * 2 ^ b.L - 1
  unfolding full capacity
  full_only {n} {e} d z =
      eqb-true (held b) (b.M * 2 ^ b.L - 1) ((add_told b n e).nine (sym (ap (λ (x : Result). x.reply.number) (one_call (add n e) h d).result) ∙ z))

  there_only : {n : ℕ} {e : Entry} {r : Result} {end : List ℕ} → Did memory (add n e) r end → r.reply.number ≡ 100
      → has b.entries e ≡ true
  there_only {n} {e} d z = (add_told b n e).hundred (sym (ap (λ (x : Result). x.reply.number) (one_call (add n e) h d).result) ∙ z)

  words : InWords b memory
  words = record { accepted_once = h.sound.once; search_lists = search_lists; pruning = pruning; full_only = full_only; there_only = there_only; reads_level = reads_level }

-- DEMAND 3 IN ITS OWN WORDS
pub in_words : Demand3InWords
in_words memory between calls results ran start =
    let d = demand_3 memory between calls results ran start in
    words (subst (HoldsBook between) (after_noted blank calls ∙ ap (noted_from blank calls) (sym d.results_equal)) d.holds)
