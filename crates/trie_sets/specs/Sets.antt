-- Sets of keys as slots that stand one after the other. Assumes nothing: these are definitions.
use Rattle.std.specs.Prelude.{ℕ, Bool, List, map}
use Rattle.buffer.specs.Lists.{all}
use Rattle.rows.specs.Records.{records, table}
use Rattle.trie_theory.specs.Forest.{Key}
use Rattle.entries.specs.Slots.{slot_size, slot_key, short_path}

-- the slots that a stretch has
abbrev pub slots_of : List ℕ → List (List ℕ)
slots_of t = table slot_size t

-- the keys of the first n slots of t
unfoldable pub keys_of : ℕ → List ℕ → List Key
keys_of n t = map slot_key (records slot_size n t)

-- no path in them is longer than a path may be
unfoldable pub short_paths : ℕ → List ℕ → Bool
short_paths n t = all short_path (records slot_size n t)
