-- What the level builder promises. Assumes nothing: these are definitions.
use Rattle.std.specs.Prelude.{ℕ, ◌*◌, ◌≡◌, List, length, get_or}
use Rattle.buffer.specs.Splice.{region}
use Rattle.entries.specs.Slots.{slot_size}
use Rattle.trie_sets.specs.Partition.{Outside}

-- room for a level: as many bytes for each entry are enough (law `figures` of trie_theory)
abbrev pub trie_room : ℕ
trie_room = 245

-- s' is s with these bytes from `out` on; the stretches of the slots and of the scratch have some bytes, every other byte is as before
pub record Built (s : List ℕ) (out slots scratch n : ℕ) (bytes s' : List ℕ) : Type 0 where
  pub long : length s' ≡ length s
  pub wrote : region s' out (length bytes) ≡ bytes
  pub kept : (i : ℕ) → Outside i out (length bytes) → Outside i slots (n * slot_size) → Outside i scratch (n * slot_size)
      → get_or s' i 0 ≡ get_or s i 0
