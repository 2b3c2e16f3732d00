-- The records read are those of the trie. Assumes nothing.
use mathlib.Core.Path.{◌≡◌, refl, sym, ap, ap₂, ◌∙◌}
use mathlib.Core.Bool.{true}
use Prim.Native.Nat.{ℕ}
use mathlib.Core.List.{List, [], ◌∷◌, ◌++◌, map}
use Rattle.buffer.specs.Lists.{all}
use Rattle.buffer.proofs.Tests.{and_left, and_right}
use Rattle.rows.specs.Sizes.{record_size}
use Rattle.rows.specs.Entry.{Entry, fits_row}
use Rattle.rows.specs.Order.{record_order, entry_order}
use Rattle.rows.specs.Sorted.{sorted}
use Rattle.rows.proofs.Rows.{sorted_records}
use Rattle.trie_theory.specs.Forest.{Forest}
use Rattle.trie_theory.specs.Walk.{walk}
use Rattle.entries.specs.Keys.{entry_key}
use Rattle.gather.proofs.Filling.{entry_row}
use Rattle.book.specs.Records.{walk_bytes, record_of}
use Rattle.book.specs.FromTries.{entries_of}
use Rattle.book.proofs.EntryKeys.{keys_of_entries}
use Rattle.read_back.specs.Readings.{trie_record, TrieRead}
use Rattle.store.specs.Listing.{Walked}
use Rattle.store_read.specs.Listings.{RecordsOf}

-- ---- records of keys of entries

module _ (f : Forest) where
  record_is : (e : Entry) → fits_row e ≡ true → trie_record f (entry_key e) ≡ record_of f e
  unfolding trie_record record_of
  record_is e h = ap (λ (l : List ℕ). l ++ walk_bytes (walk [] f (entry_key e))) (entry_row e h)

  records_are : (es : List Entry) → all fits_row es ≡ true → map (trie_record f) (map entry_key es) ≡ map (record_of f) es
  records_are [] h = refl
  records_are (e ∷ es) h = ap₂ ◌∷◌ (record_is e (and_left (fits_row e) (all fits_row es) h)) (records_are es (and_right (fits_row e) (all fits_row es) h))

  -- they sort as the entries do
  sorted_are : (es : List Entry) → all fits_row es ≡ true → sorted record_order (map (record_of f) es) ≡ map (record_of f) (sorted entry_order es)
  unfolding record_of
  sorted_are es h = sorted_records (λ e. walk_bytes (walk [] f (entry_key e))) es h

-- ---- the walk over the trie

pub walked : {t : List ℕ} {room : ℕ} {answer s : List ℕ} {n : ℕ} → TrieRead t room answer s n → Walked record_size (RecordsOf t) room answer s n 0
walked a =
    record {
      put = a.put;
      even = a.fit;
      count = a.count;
      writes = a.writes;
      are = λ rows second h.
          let f = h.trie in
          let k = keys_of_entries f h.level.entries in (
            ap (sorted record_order) (a.are f h.level.trie ∙ ap (map (trie_record f)) k.0 ∙ records_are f (entries_of f) k.1)
                ∙ sorted_are f (entries_of f) k.1
                ∙ sym h.records_are,
            sym h.second_is,
          );
    }
