-- The rows found are those of the tries that the store holds. Assumes nothing.
use mathlib.Core.Path.{◌≡◌, refl, sym, ap, ◌∙◌}
use mathlib.Core.Bool.{true}
use Prim.Native.Nat.{ℕ, ◌+◌}
use mathlib.Core.List.{List, ◌∷◌, map}
use lib.ListN.{length-map}
use Rattle.buffer.specs.Lists.{All, nil, cons, all, flat}
use Rattle.buffer.specs.Splice.{splice}
use Rattle.buffer.proofs.Tests.{and_both}
use Rattle.buffer.proofs.Lists.{map_take}
use Rattle.rows.specs.Sizes.{row_size}
use Rattle.rows.specs.Entry.{row, fits_row}
use Rattle.rows.specs.Order.{record_order}
use Rattle.rows.specs.Sorted.{sorted}
use Rattle.rows.proofs.Rows.{sorted_rows}
use Rattle.trie_theory.specs.Forest.{Key}
use Rattle.trie_theory.specs.Entries as Key
use Rattle.entries.specs.Query.{Query}
use Rattle.gather.specs.Walks.{joined}
use Rattle.gather.proofs.Putting.{all_even}
use Rattle.search.specs.Steps.{key_row}
use Rattle.search.proofs.Finding.{length_row}
use Rattle.book.specs.FromTries.{key_entry, found_in}
use Rattle.store.specs.Listing.{Walked}
use Rattle.store_search.specs.Listing.{TriesSearched, RowsOf}
use Rattle.store_search.proofs.Keys.{rowed}
use Rattle.store_search.proofs.Found.{finds}

-- ---- rows of keys of entries

rows_of : {xs : List Key} → All Key.OfEntry xs → map key_row xs ≡ map row (map key_entry xs)
rows_of nil = refl
rows_of (cons {x = x} e a) = λ i. (rowed x e).row_is i ∷ rows_of a i

fit_rows : {xs : List Key} → All Key.OfEntry xs → all fits_row (map key_entry xs) ≡ true
fit_rows nil = refl
fit_rows (cons {x = x} e a) = and_both (rowed x e).fits (fit_rows a)

-- ---- the walk over all tries

pub walked : {q : Query} {store : List ℕ} {m l room : ℕ} {answer s s' : List ℕ} {n d d' : ℕ} → TriesSearched q store m l (l + 1) room answer s n d
    → s' ≡ s → d' ≡ d → Walked row_size (RowsOf q store m l) room answer s' n d'
unfolding joined
walked {q} {store} {m} {l} {room} {answer} {s} {n = n} {d} {d'} a new same =
    record {
      put = map key_row a.put;
      even = all_even key_row row_size length_row a.put a.fit;
      count = a.rows_are ∙ sym (length-map a.put key_row);
      writes = new ∙ a.writes ∙ ap (λ (rs : List (List ℕ)). splice answer 0 (flat rs)) (map_take key_row room a.put);
      are = λ rows second h. are rows second h;
    }
  where
    are : (rows : List (List ℕ)) (second : ℕ) → RowsOf q store m l rows second → (sorted record_order (map key_row a.put) ≡ rows) × (d' ≡ second)
    are rows second h =
        let z = finds a h.front h.tries h.m_is h.l_is h.good h.holds in (
          ap (sorted record_order) (rows_of z.entries ∙ ap (map row) z.are)
              ∙ sorted_rows (found_in q l h.tries) (rw z.are at (fit_rows z.entries))
              ∙ sym h.rows_are,
          same ∙ z.nodes ∙ sym h.nodes_are,
        )
