-- The contract of `gather`. Assumes nothing: these are definitions.
use Rattle.std.specs.Prelude.{ℕ, ◌*◌, ◌≤◌, ◌≡◌, true, List, [], map, length}
use Rattle.buffer.specs.Lists.{all, flat}
use Rattle.buffer.specs.Splice.{splice}
use Rattle.rows.specs.Sizes.{node_limit}
use Rattle.rows.specs.Entry.{Entry, fits_row}
use Rattle.rows.specs.Records.{records}
use Rattle.trie_theory.specs.Forest.{Forest, keys}
use Rattle.trie_theory.specs.Size.{height}
use Rattle.trie_theory.specs.Encode.{Regular, encode}
use Rattle.entries.specs.Keys.{entry_key}
use Rattle.entries.specs.Slots.{slot_size, slot, short_path}
use Rattle.trie_read.specs.Shape.{part}

-- The slice s is s' afterwards: r slots are written from `out` on, on any bytes; and where the bytes from..to are those of tries that have
-- the keys of entries, they are the slots of these entries.
pub record Gathered (from to out room : ℕ) (s s' : List ℕ) (r : ℕ) : Type 0 where
  pub bytes : List ℕ
  pub is : s' ≡ splice s out bytes
  pub long : length bytes ≡ r * slot_size
  pub most : r ≤ room
  pub short : all short_path (records slot_size r bytes) ≡ true
  pub entries : (f : Forest) (es : List Entry) → Regular 2 f → height f ≤ node_limit → part from to s ≡ encode f
      → keys [] f ≡ map entry_key es → all fits_row es ≡ true → length es ≤ room
      → (r ≡ length es) × (bytes ≡ flat (map slot es))
