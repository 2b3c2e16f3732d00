-- A key of an entry has a slot, its row is the entry's, and its path is one. Assumes nothing.
use mathlib.Core.Path.{◌≡◌, sym, ap, subst, ◌∙◌}
use mathlib.Core.Bool.{true}
use mathlib.Core.List.{[], map}
use Rattle.buffer.specs.Lists.{All, all}
use Rattle.buffer.proofs.Lists.{all_imp, all_both, all_unmap, all_tested}
use Rattle.matcher.proofs.Firsts.{first_whole}
use Rattle.matcher.proofs.Forms.{fine_path}
use Rattle.rows.specs.Entry.{Entry, row, fits_row}
use Rattle.trie_theory.specs.Forest.{Key, Forest, keys}
use Rattle.trie_theory.specs.Entries as Key
use Rattle.gather.specs.KeySlots.{has_slot}
use Rattle.gather.proofs.Filling.{entry_has}
use Rattle.entries.specs.Keys.{entry_key}
use Rattle.search.specs.Steps.{key_row}
use Rattle.search.specs.Searches.{OfPath}
use Rattle.search.proofs.Whole.{entry_row}
use Rattle.book.specs.Book.{formed}
use Rattle.book.specs.FromTries.{key_entry, entries_of}
use Rattle.book.proofs.Keys.{as_formed}
use Rattle.book.proofs.EntryKeys.{entry_back, entry_fits}

path_first : (e : Entry) → formed e ≡ true → OfPath (entry_key e)
unfolding entry_key
path_first e h = first_whole e.path (fine_path e.path (as_formed e h).path)

pub allowed_paths : (t : Forest) → All Key.OfEntry (keys [] t) → all formed (entries_of t) ≡ true → All OfPath (keys [] t)
unfolding entries_of
allowed_paths t entries h =
    all_imp (λ x e. subst OfPath (entry_back x e.0) (path_first (key_entry x) e.1))
    (all_both entries (all_unmap key_entry (λ x e. e) (keys [] t) (all_tested formed (map key_entry (keys [] t)) h)))

pub record Rowed (x : Key) : Type 0 where
  pub slot : has_slot x ≡ true
  pub row_is : key_row x ≡ row (key_entry x)
  pub fits : fits_row (key_entry x) ≡ true

pub rowed : (x : Key) → Key.OfEntry x → Rowed x
rowed x e =
    let back = sym (entry_back x e) in
    let fits = entry_fits x e in
    record { slot = ap has_slot back ∙ entry_has (key_entry x) fits; row_is = ap key_row back ∙ entry_row (key_entry x) fits; fits = fits }
