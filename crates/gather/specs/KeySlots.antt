-- The slot of a key, and the bytes of a key that are known on the way down. Assumes nothing: these are definitions.
use Rattle.std.specs.Prelude.{ℕ, ◌+◌, ◌-◌, Bool, ◌&&◌, List, [], ◌∷◌, ◌++◌, length, take, replicate, eqb, leb, ltb}
use Rattle.buffer.specs.Splice.{region}
use Rattle.rows.specs.Sizes.{value_size, reference_size, path_at, row_size}
pub use Rattle.rows.specs.Sizes.{ended_limit}
use Rattle.trie_theory.specs.Forest.{Strings, Key, under}
use Rattle.trie_theory.specs.Strings.{at}
use Rattle.entries.specs.Slots.{slot_size}
use Rattle.trie_read.specs.Shape.{key_of}

-- a key that a slot has room for: a value of 8 bytes, a reference of 20, a path of at most 200 and its end byte
unfoldable pub has_slot : Key → Bool
has_slot x =
    eqb (length (at 0 x.strings)) value_size
    && (eqb (length x.reference) reference_size && (ltb 0 (length (at 1 x.strings)) && leb (length (at 1 x.strings)) ended_limit))

-- its slot: value, reference, path length without the end byte, path and end byte, zeros. Of an entry's key it is the entry's slot (law `entry_slot`)
unfoldable pub key_slot : Key → List ℕ
key_slot x =
    at 0 x.strings
    ++ (x.reference ++ ((length (at 1 x.strings) - 1) ∷ (at 1 x.strings ++ replicate (slot_size - path_at - length (at 1 x.strings)) 0)))

-- its row
unfoldable pub key_row : Key → List ℕ
key_row x = take row_size (key_slot x)

-- the bytes known on the way down, v of the value and p of the path: they stand where a slot has them
unfoldable pub known : ℕ → ℕ → List ℕ → Strings
known v p k = take v k ∷ region k path_at p ∷ []

-- the key of a suffix with these strings and this reference, behind the bytes k
abbrev pub suffix_key : Strings → List ℕ → List ℕ → List ℕ → Key
suffix_key k value path reference = under k (key_of value path reference)

-- strings have room behind v and p known bytes
abbrev pub has_room : ℕ → ℕ → List ℕ → List ℕ → Bool
has_room v p value path = leb (v + length value) value_size && leb (p + length path) ended_limit
