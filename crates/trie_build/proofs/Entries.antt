-- FOR CALLERS: slots of entries have the keys of those entries, and short paths. Assumes nothing.
use mathlib.Core.Path.{◌≡◌, refl, sym, ap, ap₂, ◌∙◌}
use mathlib.Core.Bool.{true}
use Prim.Native.Nat.{ℕ, ◌*◌}
use mathlib.Core.List.{List, [], ◌∷◌, map}
use native.Mathlib.Omega.{arith}
use lib.ListN.{length, drop}
use Rattle.buffer.specs.Lists.{all, flat}
use Rattle.buffer.specs.Splice.{region}
use Rattle.buffer.proofs.Tests.{and_left, and_right, and_both}
use Rattle.rows.specs.Entry.{Entry, fits_row}
use Rattle.rows.specs.Records.{records}
use Rattle.rows.proofs.Rows.{fits}
use Rattle.entries.specs.Keys.{entry_key}
use Rattle.entries.specs.Slots.{slot_size, slot, slot_key, short_path}
use Rattle.entries.proofs.Slots.{records_slots, slot_key_lem, slot_short}
use Rattle.trie_sets.specs.Sets.{keys_of, short_paths}
use Rattle.trie_sets.proofs.Slotted.{slots_part}

keys_each : (es : List Entry) → all fits_row es ≡ true → map slot_key (map slot es) ≡ map entry_key es
keys_each [] h = refl
keys_each (e ∷ es) h = ap₂ ◌∷◌ (slot_key_lem e (and_left (fits_row e) (all fits_row es) h)) (keys_each es (and_right (fits_row e) (all fits_row es) h))

short_each : (es : List Entry) → all fits_row es ≡ true → all short_path (map slot es) ≡ true
short_each [] h = refl
short_each (e ∷ es) h =
    let f = fits e (and_left (fits_row e) (all fits_row es) h) in
    and_both (slot_short e f.short f.full) (short_each es (and_right (fits_row e) (all fits_row es) h))

module _ (s : List ℕ) (at : ℕ) (es : List Entry) (h : all fits_row es ≡ true) (e : region s at (length es * slot_size) ≡ flat (map slot es)) where
  slots_are : records slot_size (length es) (drop at s) ≡ map slot es
  slots_are = sym (slots_part (length es) (length es * slot_size) (drop at s) (omega arith)) ∙ ap (records slot_size (length es)) e ∙ records_slots es h

  pub entries_keys : keys_of (length es) (drop at s) ≡ map entry_key es
  unfolding keys_of
  entries_keys = ap (map slot_key) slots_are ∙ keys_each es h

  pub entries_short : short_paths (length es) (drop at s) ≡ true
  unfolding short_paths
  entries_short = rw slots_are (short_each es h)
