-- What the private functions of an overflow promise each other. Assumes nothing: these are definitions.
use Rattle.std.specs.Prelude.{ℕ, ◌+◌, ◌*◌, ◌^◌, ◌≤◌, ◌<◌, ◌≡◌, true, List, [], ◌∷◌, ◌++◌, map, length, replicate, Option, Some, None}
use Rattle.buffer.specs.Lists.{all, flat}
use Rattle.buffer.specs.Splice.{splice}
use Rattle.rows.specs.Entry.{Entry, fits_row}
use Rattle.rows.specs.Order.{record_order}
use Rattle.rows.specs.Sorted.{sorted}
use Rattle.rows.specs.Records.{records}
use Rattle.trie_theory.specs.Level.{level_of}
use Rattle.trie_theory.specs.Encode.{encode}
use Rattle.entries.specs.Slots.{slot_size, slot, slot_key, short_path}
use Rattle.book.specs.Front.{Front, front_room, entry_room}
use Rattle.book.specs.Digits.{digit}
use Rattle.book.specs.Tries.{Tries, dimensions, level_trie}
use Rattle.book.specs.FromTries.{entries_of, entries_in}
use Rattle.book.specs.Image.{padded, Holds}
use Rattle.book.specs.Good.{GoodTries}
use Rattle.store.specs.Parts.{up_to}

-- the first of l digits of n that is 0
abbrev pub FirstEmpty : ℕ → ℕ → Option ℕ → Type 0
FirstEmpty l n (Some j) = (j < l) × ((i : ℕ) → i < j → digit i n ≡ 1) × (digit j n ≡ 0)
FirstEmpty l n None = (i : ℕ) → i < l → digit i n ≡ 1

-- where the slots stand in the region at `base` of a level of up to `size` entries
abbrev pub slots_at : ℕ → ℕ → ℕ
slots_at base size = base + size * slot_size

-- the bytes of that region: the trie of the first n slots of t, in row sequence, and zeros
unfoldable pub level_bytes : ℕ → ℕ → ℕ → List ℕ → List ℕ
level_bytes size τ n t = padded (entry_room * size) (encode (level_of dimensions τ (map slot_key (sorted record_order (records slot_size n t)))))

-- The slice s is s' afterwards: r slots are written from `out` on, on any bytes; where s holds good tries, they are the slots of the entries
-- of the first k
pub record FirstGathered (m l k out room : ℕ) (s s' : List ℕ) (r : ℕ) : Type 0 where
  pub bytes : List ℕ
  pub is : s' ≡ splice s out bytes
  pub long : length bytes ≡ r * slot_size
  pub most : r ≤ room
  pub short : all short_path (records slot_size r bytes) ≡ true
  pub entries : (f : Front) (t : Tries) → f.M ≡ m → f.L ≡ l → GoodTries f t → Holds s f t → let es = flat (map entries_of (up_to k t)) in
      length es ≤ room → (r ≡ length es) × (bytes ≡ flat (map slot es))

-- The regions of level j and of all tries below it are written anew. Where s holds good tries: level j is of their entries and e, and the rest zeros
pub record LevelFilled (m l τ j : ℕ) (e : Entry) (s s' : List ℕ) : Type 0 where
  pub bytes : List ℕ
  pub is : s' ≡ splice s front_room bytes
  pub long : length bytes ≡ entry_room * m * 2 ^ j + entry_room * m * 2 ^ j
  pub entries : (f : Front) (t : Tries) → f.M ≡ m → f.L ≡ l → GoodTries f t → Holds s f t → fits_row e ≡ true
      → let n = entry_room * m * 2 ^ j in
      length (entries_in j t) + 1 ≤ m * 2 ^ j → bytes ≡ replicate n 0 ++ padded n (encode (level_trie τ (entries_in j t ++ (e ∷ []))))
