-- A line carried out, from what its call promises and what was written. Assumes nothing.
use mathlib.Core.Path.{◌≡◌, refl, ap, ap₂, subst, ◌∙◌}
use mathlib.Core.Logic.{◌⊎◌, inl, inr}
use mathlib.Core.Bool.{true}
use Prim.Native.Nat.{ℕ, zero, suc, ◌*◌, ◌≤◌, ◌<◌}
use mathlib.Core.List.{List, [], ◌++◌, map}
use native.Mathlib.Omega.{arith}
use lib.ListN.{length}
use Rattle.buffer.specs.Lists.{flat}
use Rattle.buffer.specs.Splice.{splice}
use Rattle.rows.specs.Sizes.{row_size}
use Rattle.rows.specs.Entry.{Entry, row, entry}
use Rattle.rows.specs.Records.{records}
use Rattle.entries.specs.Query.{Query, asked}
use Rattle.book.specs.Front.{front_of}
use Rattle.book.specs.Book.{Book, front}
use Rattle.book.specs.Replies.{Reply, reply, Result, result, search_number}
use Rattle.book.specs.Calls.{typed}
use Rattle.book.specs.Searching.{matching, nodes}
use Rattle.book.specs.Promises.{SetsUp, Adds, Searches, Accepted, NoRoom}
use Rattle.book.proofs.Kept.{matching_fits}
use Rattle.logline.specs.Meaning.{setup, addition, searching, misread}
use Rattle.logline.specs.Spelling.{entry_line, row_line, Wrote}
use Rattle.linespell.proofs.Writing.{then}
use Rattle.session.specs.Sizes.{store_size, answer_size}
use Rattle.session.specs.Printed.{setup_call, add_call, search_call, reply_line, searched, printed, next}
use Rattle.session.specs.Keeps.{Keeps, Ran, by_setup, by_addition, by_search, by_misread}
use Rattle.session.proofs.Keeping.{Kept, kept_setup, kept_add, kept_search, accepted_sound}
use Rattle.session.proofs.Enough.{accepted, refused}
use Rattle.session.proofs.Printing.{lines_of_rows}

short : {out b filled : List ℕ} {n : ℕ} → Wrote out 0 b filled n → n ≤ length out
short w = omega (arith, w.ends, w.room)

pub ran_misread : {store out filled : List ℕ} {n : ℕ} → Wrote out 0 (reply_line (reply 12 0 0)) filled n → Ran misread store store out filled n
unfolding printed next reply_line
ran_misread w = record { short = short w; prints = λ b k. w; keeps = λ b k. k; changes = by_misread refl }

module _ {store after out filled : List ℕ} {r : Reply} {n : ℕ} (lent : length store ≡ store_size) (size : length after ≡ length store) (w : Wrote out 0 (reply_line r) filled n) where
  pub ran_setup : (m l t : ℕ) → SetsUp m l t store after r → Ran (setup m l t) store after out filled n
  unfolding printed next
  ran_setup m l t p =
      let k : (b : Book) → Keeps store b → Kept b (setup_call m l t) (result r []) after = λ b h. kept_setup store after (result r []) lent size b m l t (p, refl) h in
      record {
        short = short w;
        prints = λ b h. subst (λ (x : Result). Wrote out 0 (reply_line x.reply) filled n) (k b h).result w;
        keeps = λ b h. (k b h).keeps;
        changes = by_setup p;
      }

  pub ran_add : (value : ℕ) (reference path : List ℕ) → typed (add_call (entry path value reference)) ≡ true → Adds (entry path value reference) store after r
      → Ran (addition value reference path) store after out filled n
  unfolding printed next
  ran_add value reference path t p =
      let e = entry path value reference in
      let k : (b : Book) → Keeps store b → Kept b (add_call e) (result r []) after = λ b h. kept_add store after (result r []) lent size b e t (p, refl) h in
      record {
        short = short w;
        prints = λ b h. subst (λ (x : Result). Wrote out 0 (reply_line x.reply) filled n) (k b h).result w;
        keeps = λ b h. (k b h).keeps;
        changes = by_addition p;
      }

-- ---- a search: the rows that were accepted, and the reply

module _ {q : Query} {store answer filled : List ℕ} {r : Reply} (p : Searches q store answer filled r) where
  pub room_there : r.number ≡ 0 → r.first * row_size ≤ length answer
  room_there z = go (search_number (length store) (front_of store) q) refl
    where
      listed : Accepted row_size answer filled r ⊎ NoRoom row_size (front_of store).held answer filled r → r.first * row_size ≤ length answer
      listed (inl a) = a.room
      listed (inr n) = absurd (omega (arith, z, n.number))

      go : (k : ℕ) → search_number (length store) (front_of store) q ≡ k → r.first * row_size ≤ length answer
      go zero e = listed (p.otherwise e)
      go (suc k) e =
          let n : r.number ≡ suc k = ap (λ (x : Result). x.reply.number) (p.refused k e) in
          absurd (omega arith)

module _ {low high : ℕ} {pattern store answer filled : List ℕ} {r : Reply} (lent : length store ≡ store_size) (buffer : length answer ≡ answer_size)
    (p : Searches (asked pattern low high) store answer filled r) where
  kept : (b : Book) → Keeps store b → Kept b (search_call (asked pattern low high) answer) (result r filled) store
  kept b h = kept_search store store (result r filled) lent refl b (asked pattern low high) answer (p, refl) h

  -- refused by a number that is not 0, or accepted with all its rows
  by_number : (P : List ℕ → Type 0) (b : Book) → Keeps store b → let found = matching (asked pattern low high) b.entries in
      ((k : ℕ) → r ≡ reply (suc k) 0 0 → P (reply_line r))
      → (r ≡ reply 0 (length found) (nodes (asked pattern low high) b) → filled ≡ splice answer 0 (flat (map row found)) → P (flat (map entry_line found) ++ reply_line r))
      → P (printed b (searching low high pattern))
  unfolding printed searched reply_line
  by_number P b h no_rows rows = go (search_number store_size (front b) q) refl
    where
      q : Query
      q = asked pattern low high

      found : List Entry
      found = matching q b.entries

      go : (k : ℕ) → search_number store_size (front b) q ≡ k → P (searched k found (nodes q b))
      go zero z =
          let e = (kept b h).result ∙ accepted b q z answer buffer in
          let a = ap (λ (x : Result). x.reply) e in
          rw a at (rows a (ap (λ (x : Result). x.answer) e))
      go (suc k) z =
          let a = ap (λ (x : Result). x.reply) ((kept b h).result ∙ refused b q answer k z) in
          rw a at (no_rows k a)

  pub ran_refused : {out out' : List ℕ} {n : ℕ} → 0 < r.number → Wrote out 0 (reply_line r) out' n → Ran (searching low high pattern) store store out out' n
  unfolding next
  ran_refused {out} {out'} {n} z w =
      record {
        short = short w;
        prints = λ b h. by_number (λ text. Wrote out 0 text out' n) b h (λ k e. w) (λ e f. absurd (omega (arith, z, ap (λ (x : Reply). x.number) e)));
        keeps = λ b h. h;
        changes = by_search refl;
      }

  pub ran_accepted : {out between out' : List ℕ} {at n : ℕ} → r.number ≡ 0 → Wrote out 0 (flat (map row_line (records row_size r.first filled))) between at
      → Wrote between at (reply_line r) out' n → Ran (searching low high pattern) store store out out' n
  unfolding next
  ran_accepted {out} {between} {out'} {at} {n} z a w =
      record {
        short = short (then a w);
        prints = λ b h.
            (let q = asked pattern low high in
            let found = matching q b.entries in
            let fit = matching_fits q b (accepted_sound store b q answer (result r filled) h (kept b h).result z) in
            by_number (λ text. Wrote out 0 text out' n) b h
            (λ k e. let y : r.number ≡ suc k = ap (λ (x : Reply). x.number) e in absurd (omega arith))
            (λ e f.
            let lines : flat (map row_line (records row_size r.first filled)) ≡ flat (map entry_line found) =
            ap₂ (λ (m : ℕ) (s : List ℕ). flat (map row_line (records row_size m s))) (ap (λ (x : Reply). x.first) e) f ∙ lines_of_rows found fit answer in
            rw lines at (then a w)));
        keeps = λ b h. h;
        changes = by_search refl;
      }
