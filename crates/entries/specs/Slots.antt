-- Slots: rows with zeros behind them, a fixed distance apart, so that the byte behind each path is its end byte. A level is built from
-- such rows. Assumes nothing: these are definitions.
use Rattle.std.specs.Prelude.{ℕ, ◌+◌, ◌-◌, Bool, List, [], ◌∷◌, ◌++◌, get_or, replicate, leb}
use Rattle.buffer.specs.Splice.{region}
use Rattle.matcher.specs.Bytes.{path_limit}
use Rattle.rows.specs.Sizes.{value_size, reference_size, reference_at, length_at, path_at, row_size}
use Rattle.rows.specs.Entry.{Entry, row}
use Rattle.trie_theory.specs.Forest.{Key}

abbrev pub slot_size : ℕ
slot_size = 256

-- the slot of an entry
unfoldable pub slot : Entry → List ℕ
slot e = row e ++ replicate (slot_size - row_size) 0

-- the key that a slot has, whatever bytes it is of: value, path with the byte behind it, reference
unfoldable pub slot_key : List ℕ → Key
slot_key r =
    record {
      strings = region r 0 value_size ∷ region r path_at (get_or r length_at 0 + 1) ∷ [];
      reference = region r reference_at reference_size;
    }

-- its path is not longer than a path may be
unfoldable pub short_path : List ℕ → Bool
short_path r = leb (get_or r length_at 0) path_limit
