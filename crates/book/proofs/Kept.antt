-- The promises can be kept together: on a store that holds a book by what the book's step gives, and on a store that holds none by an answer that
-- lists nothing.
use Prim.Native.Nat.{ℕ, zero, suc, ◌+◌, ◌*◌, ◌≤◌}
use mathlib.Core.Path.{◌≡◌, refl, sym, ap, ap₂, ◌∙◌, subst}
use mathlib.Core.Logic.{◌⊎◌, inl, inr, ⊎_elim}
use mathlib.Core.Bool.{Bool, true, false, cond}
use mathlib.Core.List.{List, [], ◌∷◌, map}
use native.Mathlib.Omega.{arith}
use native.Mathlib.Nat.{zero-mul}
use lib.ListN.{length, take, drop, length-map, length-append, length-take, length-drop}
use lib.Dec.{ltb}
use borrow.Author.Tests.{ltb-true, ltb-false, le-ltb}
use Rattle.buffer.specs.Lists.{all, pick, flat}
use Rattle.buffer.specs.Splice.{splice}
use Rattle.buffer.proofs.Lists.{all_tested, all_test, all_pick, all_imp}
use Rattle.buffer.proofs.Splice.{length_splice, drop_after}
use Rattle.buffer.proofs.Sums.{length_pick, count_most}
use Rattle.rows.specs.Sizes.{row_size, record_size}
use Rattle.rows.specs.Entry.{Entry, row, fits_row}
use Rattle.rows.specs.Order.{entry_order}
use Rattle.rows.specs.Sorted.{sorted}
use Rattle.rows.proofs.Sorted.{all_sorted, length_sorted}
use Rattle.rows.proofs.Rows.{length_row, length_side_by_side}
use Rattle.entries.specs.Query.{Query, matches_entry}
use Rattle.book.specs.Front.{Front, front_of, holding, need}
use Rattle.book.specs.Digits.{level}
use Rattle.book.specs.Book.{Book, Sound, held, front, put, has}
use Rattle.book.specs.Tries.{level_trie}
use Rattle.book.specs.Searching.{matching}
use Rattle.book.specs.Records.{record_of, level_read, records}
use Rattle.book.specs.Replies.{Reply, reply, Result, result, add_number, search_number, read_number}
use Rattle.book.specs.Calls.{add, search, read_level, typed}
use Rattle.book.specs.Step.{Outcome, unless, admit, outcome, fill, list, step}
use Rattle.book.specs.Image.{image, HoldsBook}
use Rattle.book.specs.Promises.{Added, Adds, Accepted, NoRoom, Searches, ReadsLevel}
use Rattle.book.proofs.Keys.{fits_rows}
use Rattle.book.proofs.Book.{step_sound, add_same}
use Rattle.book.proofs.Image.{length_image, level_formed}
use Rattle.book.proofs.Listing.{list_none}
use Rattle.book.proofs.OneCall.{front_read, holds_after}
use Rattle.book.proofs.Records.{length_record}
use Rattle.book.proofs.Unique.{same_tries}
use Rattle.book.proofs.Alike.{search_alike, read_alike, add_alike}
use Rattle.book.proofs.Writes.{as_held}
use Rattle.book.proofs.Image.{image_fits}
use lib.Seq.{take_all}

-- ---- listings

abbrev Fills : ℕ → ℕ → List ℕ → Result → Type 0
Fills width held answer r = Accepted width answer r.answer r.reply ⊎ NoRoom width held answer r.answer r.reply

-- rows of the width, no more than held
list_filled : (width : ℕ) (rows : List (List ℕ)) (second : ℕ) (answer : List ℕ) (held : ℕ) → length (flat rows) ≡ length rows * width
    → length rows ≤ held → Fills width held answer (list width rows second answer)
unfolding list fill
list_filled width rows second answer held e few = go _ (ltb (length answer) _) refl (omega arith) (omega arith)
  where
    filled : length rows * width ≤ length answer → Fills width held answer (result (reply 0 (length rows) second) (splice answer 0 (flat rows)))
    filled h =
        let fit : 0 + length (flat rows) ≤ length answer = omega arith in
        inl (record { number = refl; room = h; size = length_splice answer 0 (flat rows) fit; after_rows = drop_after answer 0 (flat rows) fit (length rows * width) (omega arith) })

    go : (n : ℕ) (w : Bool) → ltb (length answer) n ≡ w → n ≤ length rows * width → length rows * width ≤ n → Fills width held answer (fill w rows second answer)
    go n true q low high = inr (record { number = refl; room = omega (arith, ltb-true (length answer) n q); few = few; second = refl; unchanged = refl })
    go n false q low high = filled (omega (arith, ltb-false (length answer) n q))

list_second : (width : ℕ) (rows : List (List ℕ)) (answer : List ℕ) → (list width rows 0 answer).reply.second ≡ 0
unfolding list fill
list_second width rows answer = go _
  where
    go : (w : Bool) → (fill w rows 0 answer).reply.second ≡ 0
    go true = refl
    go false = refl

-- ---- search

pub matching_fits : (q : Query) (b : Book) → Sound b → all fits_row (matching q b.entries) ≡ true
unfolding matching
matching_fits q b s =
    all_sorted entry_order fits_row (pick (matches_entry q) b.entries)
    (all_test fits_row (all_imp (λ e h. h.0) (all_pick (matches_entry q) (all_tested fits_row b.entries (fits_rows b.entries s.formed)))))

matching_few : (q : Query) (es : List Entry) → length (matching q es) ≤ length es
unfolding matching
matching_few q es = omega (arith, length_sorted entry_order (pick (matches_entry q) es), length_pick (matches_entry q) es, count_most (matches_entry q) es)

pub search_kept : {store : List ℕ} {b : Book} (q : Query) (answer : List ℕ) → HoldsBook store b
    → let r = (step b (search (length store) q answer)).result in Searches q store answer r.answer r.reply
unfolding step
search_kept {store} {b} q answer h =
    let f = front_read h in
    let found = matching q b.entries in
    record {
      refused = λ n e. (let z : search_number (length store) (front b) q ≡ suc n = ap (λ (x : Front). search_number (length store) x q) (sym f) ∙ e in rw z);
      otherwise = λ e.
          (let z : search_number (length store) (front b) q ≡ 0 = ap (λ (x : Front). search_number (length store) x q) (sym f) ∙ e in
          rw (z, f)
          (list_filled row_size (map row found) _ answer (held b)
          (length_side_by_side row row_size length_row found (matching_fits q b h.sound) ∙ ap (λ (k : ℕ). k * row_size) (sym (length-map found row)))
          (omega (arith, length-map found row, matching_few q b.entries))));
      ours = λ b' h'. search_alike b b' (same_tries h h') h.sound h'.sound (length store) q answer;
    }

-- .. and on a store that holds no book
pub search_foreign : (q : Query) (store answer : List ℕ) → ((b : Book) → HoldsBook store b → ⊥)
    → let k = search_number (length store) (front_of store) q in Searches q store answer answer (reply k 0 0)
search_foreign q store answer none =
    record {
      refused = λ n e. ap (λ (x : ℕ). result (reply x 0 0) answer) e;
      otherwise = λ e. inl (record { number = e; room = rw (zero-mul row_size) (omega arith); size = refl; after_rows = refl });
      ours = λ b h. absurd (none b h);
    }

-- ---- reading back

read_fits : (i : ℕ) (b : Book) → Sound b → all fits_row (level_read i b) ≡ true
unfolding level_read
read_fits i b s = go (ltb i b.L)
  where
    go : (w : Bool) → all fits_row (cond w (sorted entry_order (level b.M i b.entries)) []) ≡ true
    go true = all_sorted entry_order fits_row (level b.M i b.entries) (fits_rows (level b.M i b.entries) (level_formed b.M i b.entries s.formed))
    go false = refl

pub level_most : (m i : ℕ) (es : List Entry) → length (level m i es) ≤ length es
unfolding level
level_most m i es = simp (length-take, length-drop) (omega arith)

read_few : (i : ℕ) (b : Book) → length (level_read i b) ≤ held b
unfolding level_read
read_few i b = go (ltb i b.L)
  where
    go : (w : Bool) → length (cond w (sorted entry_order (level b.M i b.entries)) []) ≤ held b
    go true = omega (arith, length_sorted entry_order (level b.M i b.entries), level_most b.M i b.entries)
    go false = omega arith

-- a level numbered L or above
read_above : (i n : ℕ) (b : Book) (answer : List ℕ) → read_number n (front b) ≡ 0 → b.L ≤ i
    → (step b (read_level n i answer)).result ≡ result (reply 0 0 0) answer
unfolding step records level_read
read_above i n b answer z h = rw (z, le-ltb i b.L h) (list_none record_size 0 answer)

pub read_kept : {store : List ℕ} {b : Book} (i : ℕ) (answer : List ℕ) → HoldsBook store b
    → let r = (step b (read_level (length store) i answer)).result in ReadsLevel i store answer r.answer r.reply
unfolding step records
read_kept {store} {b} i answer h =
    let f = front_read h in
    let es = level b.M i b.entries in
    let found = level_read i b in
    let shape = record_of (level_trie b.τ es) in
    record {
      refused = λ n e. (let z : read_number (length store) (front b) ≡ suc n = ap (read_number (length store)) (sym f) ∙ e in rw z);
      otherwise = λ e.
          (let z : read_number (length store) (front b) ≡ 0 = ap (read_number (length store)) (sym f) ∙ e in
          rw (z, f)
          (list_filled record_size (map shape found) 0 answer (held b)
          (length_side_by_side shape record_size (length_record b.τ es (level_formed b.M i b.entries h.sound.formed)) found (read_fits i b h.sound)
          ∙ ap (λ (k : ℕ). k * record_size) (sym (length-map found shape)))
          (omega (arith, length-map found shape, read_few i b))));
      above = λ e l. read_above i (length store) b answer (ap (read_number (length store)) (sym f) ∙ e) (rw f at l);
      second = second_zero (read_number (length store) (front b));
      ours = λ b' h'. read_alike b b' (same_tries h h') h.sound h'.sound (length store) i answer;
    }
  where
    second_zero : (k : ℕ) → (unless k answer b (outcome (list record_size (map (record_of (level_trie b.τ (level b.M i b.entries))) (level_read i b)) 0 answer) b)).result.reply.second ≡ 0
    second_zero zero = list_second record_size (map (record_of (level_trie b.τ (level b.M i b.entries))) (level_read i b)) answer
    second_zero (suc k) = refl

pub read_foreign : (i : ℕ) (store answer : List ℕ) → ((b : Book) → HoldsBook store b → ⊥)
    → let k = read_number (length store) (front_of store) in ReadsLevel i store answer answer (reply k 0 0)
read_foreign i store answer none =
    record {
      refused = λ n e. ap (λ (x : ℕ). result (reply x 0 0) answer) e;
      otherwise = λ e. inl (record { number = e; room = rw (zero-mul record_size) (omega arith); size = refl; after_rows = refl });
      above = λ e l. ap (λ (x : ℕ). result (reply x 0 0) answer) e;
      second = refl;
      ours = λ b h. absurd (none b h);
    }

-- ---- addition

add_says : (b : Book) (n : ℕ) (e : Entry) → add_number n (front b) e ≡ 0 → let o = step b (add n e) in
    (((o.result.reply.number ≡ 0) × (o.book ≡ put e b)) ⊎ ((o.result.reply.number ≡ 100) × (o.book ≡ b)))
    × (o.result.reply.first ≡ held o.book) × (o.result.reply.second ≡ 0)
unfolding step
add_says b n e z = rw z (go (has b.entries e))
  where
    go : (w : Bool) → let o = admit w e b in
        (((o.result.reply.number ≡ 0) × (o.book ≡ put e b)) ⊎ ((o.result.reply.number ≡ 100) × (o.book ≡ b)))
        × (o.result.reply.first ≡ held o.book) × (o.result.reply.second ≡ 0)
    go true = (inr (refl, refl), refl, refl)
    go false = (inl (refl, refl), sym (length-append b.entries (e ∷ [])), refl)

add_refusal : (b : Book) (n : ℕ) (e : Entry) (k : ℕ) → add_number n (front b) e ≡ suc k → let o = step b (add n e) in (o.result.reply ≡ reply (suc k) 0 0) × (o.book ≡ b)
unfolding step
add_refusal b n e k z = (rw z, rw z)

-- a store that holds a book, rewritten from its image, is as it was
unchanged_store : {store : List ℕ} {b : Book} → HoldsBook store b → splice store 0 (image b) ≡ store
unfolding image
unchanged_store {store} {b} h = sym (as_held h.holds (image_fits b h.sound))

-- what an addition leaves: the store of the book after it
module _ {store : List ℕ} {b : Book} (e : Entry) (h : HoldsBook store b) (t : typed (add (length store) e) ≡ true) where
  unfoldable pub stepped : Outcome
  stepped = step b (add (length store) e)

  unfoldable pub written : List ℕ
  written = splice store 0 (image stepped.book)

  after_sound : Sound stepped.book
  unfolding stepped
  after_sound = step_sound b (add (length store) e) h.sound t

  after_need : need stepped.book.M stepped.book.L ≡ need b.M b.L
  unfolding stepped
  after_need = let s = add_same b (length store) e in ap₂ need s.0 s.1

  after_long : length (image stepped.book) ≡ need b.M b.L
  after_long = length_image stepped.book after_sound ∙ after_need

  after_fits : 0 + length (image stepped.book) ≤ length store
  after_fits = omega (arith, after_long, h.holds.enough)

  pub after_length : length written ≡ length store
  unfolding written
  after_length = length_splice store 0 (image stepped.book) after_fits

  after_holds : HoldsBook written stepped.book
  unfolding written
  after_holds =
      let n = length store in
      let whole : (s : List ℕ) → length s ≡ n → take n s ≡ s = λ s z. take_all n s (omega arith) in
      holds_after n store after_sound (rw after_need h.holds.enough) (omega arith)
      (whole written after_length ∙ ap (λ (s : List ℕ). splice s 0 (image stepped.book)) (sym (whole store refl)))

  after_front : stepped.book ≡ put e b → front_of written ≡ holding ((front_of store).held + 1) (front_of store)
  after_front q =
      front_read after_holds ∙ ap front q
      ∙ ap (λ (n : ℕ). holding n (front b)) (length-append b.entries (e ∷ []))
      ∙ ap (λ (f : Front). holding (f.held + 1) f) (sym (front_read h))

  added : add_number (length store) (front b) e ≡ 0 → Added store written stepped.result.reply
  unfolding written stepped
  added z =
      let p = add_says b (length store) e z in
      let n = need b.M b.L in
      record {
        number = ⊎_elim (λ x. inl (x.0, after_front x.1)) (λ x. inr (x.0, ap (λ (d : Book). splice store 0 (image d)) x.1 ∙ unchanged_store h)) p.0;
        first = p.1 ∙ sym (ap (λ (f : Front). f.held) (front_read after_holds));
        second = p.2;
        size = after_length;
        beyond =
            subst (λ (f : Front). drop (need f.M f.L) written ≡ drop (need f.M f.L) store) (sym (front_read h))
            (drop_after store 0 (image stepped.book) after_fits n (omega (arith, after_long)));
      }

  pub add_kept : Adds e store written stepped.result.reply
  unfolding written stepped
  add_kept =
      let f = front_read h in
      record {
        refused = λ n z.
            (let p = add_refusal b (length store) e n (ap (λ (x : Front). add_number (length store) x e) (sym f) ∙ z) in
            (p.0, ap (λ (d : Book). splice store 0 (image d)) p.1 ∙ unchanged_store h));
        otherwise = λ z. added (ap (λ (x : Front). add_number (length store) x e) (sym f) ∙ z);
        ours = λ b' h'.
            (let a = add_alike b b' (same_tries h h') h.sound h'.sound (length store) e t in
            (ap (λ (r : Result). r.reply) a.0, ap (splice store 0) a.1));
      }

-- .. and on a store that holds no book
pub add_foreign : (e : Entry) (store : List ℕ) → ((b : Book) → HoldsBook store b → ⊥) → (r : Reply) × Adds e store store r
add_foreign e store none = go (add_number (length store) (front_of store) e) refl
  where
    go : (k : ℕ) → add_number (length store) (front_of store) e ≡ k → (r : Reply) × Adds e store store r
    go zero z = (
      reply 100 (front_of store).held 0,
      record {
        refused = λ n q. absurd (let y : ◌≡◌ {A = ℕ} 0 (suc n) = sym z ∙ q in omega arith);
        otherwise = λ q. record { number = inr (refl, refl); first = refl; second = refl; size = refl; beyond = refl };
        ours = λ b h. absurd (none b h);
      },
    )
    go (suc k) z = (
      reply (suc k) 0 0,
      record {
        refused = λ n q. (ap (λ (x : ℕ). reply x 0 0) (sym z ∙ q), refl);
        otherwise = λ q. absurd (let y : ◌≡◌ {A = ℕ} 0 (suc k) = sym q ∙ z in omega arith);
        ours = λ b h. absurd (none b h);
      },
    )
