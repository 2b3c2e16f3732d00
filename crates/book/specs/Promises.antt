-- What the four public calls promise, of the lent slices before and after and of the reply; no call asks anything of its caller.
-- `refused` and `otherwise` hold on any bytes: the numbers that the checks decide (`suc n` is any number but 0), and else what holds of a
-- result that is left undecided there. `ours` holds on a store that the calls left: it decides the answer and every byte afterwards.
-- Setup is decided on any bytes. Assumes nothing: these are definitions.
use Rattle.std.specs.Prelude.{ℕ, suc, ◌+◌, ◌*◌, ◌≤◌, ◌<◌, ◌≡◌, ◌⊎◌, List, [], length, drop}
use Rattle.buffer.specs.Splice.{splice}
use Rattle.rows.specs.Sizes.{row_size, record_size}
use Rattle.rows.specs.Entry.{Entry}
use Rattle.entries.specs.Query.{Query}
use Rattle.book.specs.Front.{front_of, holding, need}
use Rattle.book.specs.Book.{Book, fresh}
use Rattle.book.specs.Replies.{Reply, reply, Result, result, setup_number, add_number, search_number, read_number}
use Rattle.book.specs.Calls.{Call, setup, add, search, read_level}
use Rattle.book.specs.Step.{step}
use Rattle.book.specs.Image.{image, HoldsBook}

-- setup: the number of its checks and two zeros; accepted, it writes all the bytes needed and no others, whatever they held before
pub record SetsUp (m l t : ℕ) (store after : List ℕ) (r : Reply) : Type 0 where
  pub answers : r ≡ reply (setup_number (length store) m l t) 0 0
  pub refused : (n : ℕ) → setup_number (length store) m l t ≡ suc n → after ≡ store
  pub accepted : setup_number (length store) m l t ≡ 0 → after ≡ splice store 0 (image (fresh m l t))

-- Undecided on bytes that our calls did not leave: whether an addition finds its entry there, and what it writes within the need behind the four
-- numbers. It says 0, and of these held is one more and the others stay, or 100 and has changed nothing; with the held number that the store
-- then has, and zero
pub record Added (store after : List ℕ) (r : Reply) : Type 0 where
  pub number :
      ((r.number ≡ 0) × (front_of after ≡ holding ((front_of store).held + 1) (front_of store))) ⊎ ((r.number ≡ 100) × (after ≡ store))
  pub first : r.first ≡ (front_of after).held
  pub second : r.second ≡ 0
  pub size : length after ≡ length store
  pub beyond : let n = need (front_of store).M (front_of store).L in drop n after ≡ drop n store

-- addition
pub record Adds (e : Entry) (store after : List ℕ) (r : Reply) : Type 0 where
  pub refused : (n : ℕ) → add_number (length store) (front_of store) e ≡ suc n → (r ≡ reply (suc n) 0 0) × (after ≡ store)
  pub otherwise : add_number (length store) (front_of store) e ≡ 0 → Added store after r
  pub ours :
      (b : Book) → HoldsBook store b →
      let o = step b (add (length store) e) in (r ≡ o.result.reply) × (after ≡ splice store 0 (image o.book))

-- Undecided on bytes that our calls did not leave: which rows a listing writes, and its node count. Accepted, its rows have room, and nothing
-- after the last one is changed
pub record Accepted (width : ℕ) (answer filled : List ℕ) (r : Reply) : Type 0 where
  pub number : r.number ≡ 0
  pub room : r.first * width ≤ length answer
  pub size : length filled ≡ length answer
  pub after_rows : drop (r.first * width) filled ≡ drop (r.first * width) answer

-- 11, with the row count and zero: the rows, no more than the store says it holds, have no room, and nothing is changed
pub record NoRoom (width held : ℕ) (answer filled : List ℕ) (r : Reply) : Type 0 where
  pub number : r.number ≡ 11
  pub room : length answer < r.first * width
  pub few : r.first ≤ held
  pub second : r.second ≡ 0
  pub unchanged : filled ≡ answer

-- search: the store is lent for reading only
pub record Searches (q : Query) (store answer filled : List ℕ) (r : Reply) : Type 0 where
  pub refused : (n : ℕ) → search_number (length store) (front_of store) q ≡ suc n → result r filled ≡ result (reply (suc n) 0 0) answer
  pub otherwise :
      search_number (length store) (front_of store) q ≡ 0 →
      Accepted row_size answer filled r ⊎ NoRoom row_size (front_of store).held answer filled r
  pub ours : (b : Book) → HoldsBook store b → result r filled ≡ (step b (search (length store) q answer)).result

-- reading a level back: the store is lent for reading only, and the second value is zero; a level numbered L or above gives no rows on any store
pub record ReadsLevel (i : ℕ) (store answer filled : List ℕ) (r : Reply) : Type 0 where
  pub refused : (n : ℕ) → read_number (length store) (front_of store) ≡ suc n → result r filled ≡ result (reply (suc n) 0 0) answer
  pub otherwise :
      read_number (length store) (front_of store) ≡ 0 →
      Accepted record_size answer filled r ⊎ NoRoom record_size (front_of store).held answer filled r
  pub above : read_number (length store) (front_of store) ≡ 0 → (front_of store).L ≤ i → result r filled ≡ result (reply 0 0 0) answer
  pub second : r.second ≡ 0
  pub ours : (b : Book) → HoldsBook store b → result r filled ≡ (step b (read_level (length store) i answer)).result

-- the promise of each call; setup and addition have no answer buffer, search and reading back do not write the store
abbrev pub Promise : Call → List ℕ → List ℕ → Result → Type 0
Promise (setup n m l t) store after r = SetsUp m l t store after r.reply × (r.answer ≡ [])
Promise (add n e) store after r = Adds e store after r.reply × (r.answer ≡ [])
Promise (search n q answer) store after r = Searches q store answer r.answer r.reply × (after ≡ store)
Promise (read_level n i answer) store after r = ReadsLevel i store answer r.answer r.reply × (after ≡ store)
