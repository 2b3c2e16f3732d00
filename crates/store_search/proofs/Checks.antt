-- The numbers of a search, and what it promises with each. Assumes nothing.
use mathlib.Core.Path.{◌≡◌, refl, sym, ap, subst, ◌∙◌}
use mathlib.Core.Bool.{true, false}
use Prim.Native.Nat.{ℕ, zero, suc, ◌≤◌, ◌<◌}
use mathlib.Core.List.{List, [], ◌∷◌, map}
use native.Mathlib.Omega.{arith}
use lib.ListN.{length, length-map}
use lib.Dec.{ltb}
use borrow.Author.Tests.{lt-ltb, le-ltb}
use Rattle.buffer.specs.Lists.{pick}
use Rattle.buffer.proofs.Sums.{length_pick, count_most}
use Rattle.matcher.specs.Form.{Form, pattern_form, pattern_number}
use Rattle.matcher.specs.declared.form.FormError.TheVariants.{TooLong, Malformed}
use Rattle.rows.specs.Sizes.{row_size}
use Rattle.rows.specs.Entry.{row}
use Rattle.rows.specs.Order.{entry_order}
use Rattle.rows.specs.Sorted.{sorted}
use Rattle.rows.proofs.Sorted.{length_sorted}
use Rattle.entries.specs.Query.{Query, matches_entry}
use Rattle.book.specs.Front.{Front, front_of, no_store}
use Rattle.book.specs.Book.{Book, Sound, held, front}
use Rattle.book.specs.Tries.{tries}
use Rattle.book.specs.Searching.{matching, nodes_of}
use Rattle.book.specs.Replies.{Reply, reply, result, first_of, ◌when◌, search_number}
use Rattle.book.specs.Calls.{search}
use Rattle.book.specs.Step.{step}
use Rattle.book.specs.Image.{HoldsBook}
use Rattle.book.specs.FromTries.{found_in, search_tries}
use Rattle.book.specs.Promises.{Searches}
use Rattle.book.proofs.Numbers.{search_short}
use Rattle.book.proofs.OneCall.{front_read}
use Rattle.book.proofs.OverTries.{rows_found}
use Rattle.book.proofs.FromTries.{search_tries_lem}
use Rattle.book.proofs.Good.{tries_good}
use Rattle.store.specs.Opening.{Reads}
use Rattle.store.specs.declared.front.Front as Code
use Rattle.store.specs.Listing.{Listed}
use Rattle.std.specs.Prelude.{Ok, Err}
use Rattle.store.specs.Said.{refused}
use Rattle.store.specs.declared.refusal.Refusal.{Refusal}
use Rattle.store.proofs.Said.{refused_some}
use Rattle.store_search.specs.Listing.{query_number, RowsOf}

-- ---- the query's own checks

module _ (q : Query) where
  pub pattern_said : (e : Refusal) → refused e ≡ reply (pattern_number (pattern_form q.pattern)) 0 0 → (refused e ≡ reply (query_number q) 0 0) × (0 < query_number q)
  unfolding query_number
  pattern_said e h = go (pattern_form q.pattern) h
    where
      go : (f : Form) → refused e ≡ reply (pattern_number f) 0 0
          → (refused e ≡ reply (first_of (pattern_number f ∷ (10 when ltb q.high q.low) ∷ [])) 0 0) × (0 < first_of (pattern_number f ∷ (10 when ltb q.high q.low) ∷ []))
      go (Ok x) k = absurd (omega (arith, refused_some e, ap (λ (r : Reply). r.number) k))
      go (Err TooLong) k = (k, omega arith)
      go (Err Malformed) k = (k, omega arith)

  module _ (fine : reply 0 0 0 ≡ reply (pattern_number (pattern_form q.pattern)) 0 0) where
    no_number : pattern_number (pattern_form q.pattern) ≡ 0
    no_number = sym (ap (λ (r : Reply). r.number) fine)

    pub range_said : q.high < q.low → (reply 10 0 0 ≡ reply (query_number q) 0 0) × (0 < query_number q)
    unfolding query_number
    range_said h = rw (no_number, lt-ltb q.high q.low h) (refl, omega arith)

    pub query_fine : q.low ≤ q.high → query_number q ≡ 0
    unfolding query_number
    query_fine h = rw (no_number, le-ltb q.high q.low h)

search_number_lem : (n : ℕ) (f : Front) (q : Query) → no_store n f ≡ false → search_number n f q ≡ query_number q
unfolding search_number query_number
search_number_lem n f q h = rw h

-- ---- the promise

module _ {q : Query} {store answer : List ℕ} where
  refuses : (n : ℕ) → search_number (length store) (front_of store) q ≡ suc n → Searches q store answer answer (reply (suc n) 0 0)
  refuses n e =
      record {
        refused = λ k h. ap (λ (i : ℕ). result (reply i 0 0) answer) (sym e ∙ h);
        otherwise = λ z. absurd (let y : suc n ≡ 0 = sym e ∙ z in omega arith);
        ours = λ b h. of_book b (ap (λ (f : Front). search_number (length store) f q) (sym (front_read h)) ∙ e);
      }
    where
      of_book : (b : Book) → search_number (length store) (front b) q ≡ suc n → result (reply (suc n) 0 0) answer ≡ (step b (search (length store) q answer)).result
      of_book b z = unfold step in rw z

  pub refuses_4 : no_store (length store) (front_of store) ≡ true → Searches q store answer answer (reply 4 0 0)
  refuses_4 h = refuses 3 (search_short (length store) (front_of store) q h)

  pub refuses_query : (n : ℕ) → no_store (length store) (front_of store) ≡ false → n ≡ query_number q → 0 < n → Searches q store answer answer (reply n 0 0)
  refuses_query zero h e p = absurd (omega arith)
  refuses_query (suc n) h e p = refuses n (search_number_lem (length store) (front_of store) q h ∙ sym e)

-- a sound book finds no more than it holds
few_found : (b : Book) → Sound b → (q : Query) → length (found_in q b.L (tries b)) ≤ held b
unfolding matching
few_found b s q =
    omega (
      arith,
      length_sorted entry_order (found_in q b.L (tries b)),
      ap length (rows_found b s q),
      length_sorted entry_order (pick (matches_entry q) b.entries),
      length_pick (matches_entry q) b.entries,
      count_most (matches_entry q) b.entries,
    )

module _ {q : Query} {store answer filled : List ℕ} {g : Code.Front} {x : Reply} (r : Reads store g)
    (h : no_store (length store) (front_of store) ≡ false) (z : query_number q ≡ 0) (w : Listed row_size (RowsOf q store g.m g.l) g.held answer filled x) where
  none : search_number (length store) (front_of store) q ≡ 0
  none = search_number_lem (length store) (front_of store) q h ∙ z

  of_book : (b : Book) → HoldsBook store b → result x filled ≡ (step b (search (length store) q answer)).result
  unfolding search_tries
  of_book b hb =
      let f : front_of store ≡ front b = front_read hb in
      let m : b.M ≡ g.m = sym (r.m_is ∙ ap (λ (y : Front). y.M) f) in
      let l : b.L ≡ g.l = sym (r.l_is ∙ ap (λ (y : Front). y.L) f) in
      let n : held b ≡ g.held = sym (r.held_is ∙ ap (λ (y : Front). y.held) f) in
      let found = found_in q g.l (tries b) in
      let few : length found ≤ g.held = rw (← l, ← n) (few_found b hb.sound q) in
      let rows_few : length (map row (sorted entry_order found)) ≤ g.held = omega (arith, length-map (sorted entry_order found) row, length_sorted entry_order found) in
      let none-of-book : search_number (length store) (front b) q ≡ 0 = ap (λ (y : Front). search_number (length store) y q) (sym f) ∙ none in
      w.ours (map row (sorted entry_order found)) (nodes_of q g.l (tries b))
      (record {
        front = front b;
        tries = tries b;
        m_is = m;
        l_is = l;
        good = tries_good b hb.sound;
        holds = hb.holds;
        rows_are = refl;
        nodes_are = refl;
      })
      rows_few
      ∙ ap (λ (k : ℕ). search_tries q k (tries b) answer) (sym l)
      ∙ sym (search_tries_lem b hb.sound (length store) q answer none-of-book)

  pub lists : Searches q store answer filled x
  lists =
      record {
        refused = λ n e. absurd (let y : 0 ≡ suc n = sym none ∙ e in omega arith);
        otherwise = λ y. rw (← r.held_is) w.otherwise;
        ours = of_book;
      }

-- a listing of the store and the query that were opened and checked
pub listed_as : {q asks : Query} {store bytes answer filled : List ℕ} {m l held : ℕ} {x : Reply} → asks ≡ q → bytes ≡ store
    → Listed row_size (RowsOf asks bytes m l) held answer filled x → Listed row_size (RowsOf q store m l) held answer filled x
listed_as {q} {asks} {store} {bytes} {answer} {filled} {m} {l} {held} {x} e f w =
    subst (λ (y : Query). Listed row_size (RowsOf y store m l) held answer filled x) e
    (subst (λ (b : List ℕ). Listed row_size (RowsOf asks b m l) held answer filled x) f w)
