-- The answers from the tries of a book are the book's.
use Prim.Native.Nat.{ℕ}
use mathlib.Core.Path.{◌≡◌, refl, ap}
use mathlib.Core.Bool.{Bool, true, false, cond}
use mathlib.Core.List.{List, [], map}
use lib.Dec.{ltb}
use borrow.Author.Tests.{ltb-true}
use Rattle.rows.specs.Sizes.{record_size}
use Rattle.rows.specs.Entry.{Entry}
use Rattle.rows.specs.Order.{entry_order}
use Rattle.rows.specs.Sorted.{sorted}
use Rattle.entries.specs.Query.{Query}
use Rattle.book.specs.Book.{Book, Sound, front}
use Rattle.book.specs.Tries.{tries}
use Rattle.book.specs.Searching.{nodes}
use Rattle.book.specs.Records.{record_of, level_read, records}
use Rattle.book.specs.Replies.{add_number, search_number, read_number}
use Rattle.book.specs.Calls.{search, read_level, add}
use Rattle.book.specs.Step.{list, admit, step}
use Rattle.book.specs.FromTries.{entries_of, has_in, search_tries, read_tries}
use Rattle.book.proofs.OverTries.{rows_found, looked_up}
use Rattle.book.proofs.Records.{records_read}

module _ (b : Book) (s : Sound b) where
  pub add_tries : (n : ℕ) (e : Entry) → add_number n (front b) e ≡ 0 → step b (add n e) ≡ admit (has_in b.L (tries b) e) e b
  unfolding step
  add_tries n e z = rw (z, looked_up b s e)

  pub search_tries_lem : (n : ℕ) (q : Query) (answer : List ℕ) → search_number n (front b) q ≡ 0
      → (step b (search n q answer)).result ≡ search_tries q b.L (tries b) answer
  unfolding step search_tries nodes
  search_tries_lem n q answer z = rw (z, rows_found b s q)

  pub read_tries_lem : (n i : ℕ) (answer : List ℕ) → read_number n (front b) ≡ 0 → (step b (read_level n i answer)).result ≡ read_tries i b.L (tries b) answer
  unfolding step read_tries
  read_tries_lem n i answer z = rw z (ap (λ (rs : List (List ℕ)). list record_size rs 0 answer) (go (ltb i b.L) refl))
    where
      none : ltb i b.L ≡ false → records i b ≡ []
      none e = unfold records level_read in rw e

      go : (w : Bool) → ltb i b.L ≡ w → records i b ≡ cond w (map (record_of ((tries b).level i)) (sorted entry_order (entries_of ((tries b).level i)))) []
      go true e = records_read b s i (ltb-true i b.L e)
      go false e = none e
