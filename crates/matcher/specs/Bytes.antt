-- The bytes with a meaning of their own, the sizes, and the bytes of a label. Assumes nothing: these are definitions.
use Rattle.std.specs.Prelude.{ℕ, ◌<◌, ◌≡◌, List, Bool, true, false, not, ◌&&◌, ◌||◌, eqb, leb, get_or}
-- the most bytes of a path, and of a pattern
pub use Rattle.buffer.specs.Sizes.{path_limit}
-- `/` and `*`
pub use Rattle.glob.specs.Bytes.{slash, star}

-- the end byte, which follows a path inside the index
abbrev pub end_byte : ℕ
end_byte = 0x00

-- the most labels of a pattern
abbrev pub pattern_label_limit : ℕ
pattern_label_limit = 32

-- a byte of a label: 20 to 7E or 80 to FF hex, other than `/` and `*`
unfoldable pub label_byte : ℕ → Bool
label_byte c = ((leb 0x20 c && leb c 0x7E) || (leb 0x80 c && leb c 0xFF)) && (not (eqb c slash) && not (eqb c star))

-- a byte of a label stands at i
abbrev pub LabelAt : List ℕ → ℕ → Type 0
LabelAt s i = label_byte (get_or s i 0) ≡ true

-- marks, one for each byte, that follow the rule: true stands at each byte of a label, and at no other
pub record Marks (marks : List Bool) : Type 0 where
  pub are : (c : ℕ) → c < 256 → get_or marks c false ≡ label_byte c
