-- Entries as keys of tries. Assumes nothing: these are definitions.
use Rattle.std.specs.Prelude.{◌-◌, [], ◌∷◌, ◌++◌, length, take}
use Rattle.buffer.specs.Numbers.{bytes_of, number}
use Rattle.rows.specs.Sizes.{value_size}
use Rattle.rows.specs.Entry.{Entry}
use Rattle.trie_theory.specs.Forest.{Key}
use Rattle.trie_theory.specs.Strings.{at}

-- the key of an entry: the bytes of its value, its path with the end byte, and its reference
unfoldable pub entry_key : Entry → Key
entry_key e = record { strings = bytes_of value_size e.value ∷ (e.path ++ (0 ∷ [])) ∷ []; reference = e.reference }

-- the entry that a key is of: its path without the end byte
unfoldable pub key_entry : Key → Entry
key_entry x = record { path = take (length (at 1 x.strings) - 1) (at 1 x.strings); value = number (at 0 x.strings); reference = x.reference }
