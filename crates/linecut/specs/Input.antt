-- The lines of an input (document 01, `fieldlog`): each ends with byte 0A hex, the last one may lack it, and nothing after a final 0A is no
-- line. A line over 512 bytes is handed over as too long, without its bytes. Assumes nothing: these are definitions.
use Rattle.std.specs.Prelude.{ℕ, ◌+◌, ◌≤◌, ◌<◌, ◌≡◌, List, [], ◌∷◌, ◌++◌, Option, Some, None, cond, length, take, leb, ltb, eqb}
use Rattle.linecut.specs.Sizes.{line_limit}
use Rattle.buffer.specs.Lists.{none}
use Rattle.buffer.specs.Splice.{splice}
use Rattle.linecut.specs.declared.lines.Cut.{Cut}
use Rattle.linecut.specs.declared.lines.Cut.TheVariants.{Line, Long}

-- the lines of an input whose first line has begun with these bytes
unfoldable pub lines_from : List ℕ → List ℕ → List (List ℕ)
lines_from begun [] = cond (none begun) [] (begun ∷ [])
lines_from begun (b ∷ s) = cond (eqb b 10) (begun ∷ lines_from [] s) (lines_from (begun ++ (b ∷ [])) s)

abbrev pub lines_of : List ℕ → List (List ℕ)
lines_of s = lines_from [] s

-- what is handed over for a line
pub data Given : Type 0 where
  whole : List ℕ → Given
  too_long : Given

unfoldable pub given : List ℕ → Given
given l = cond (leb (length l) line_limit) (whole l) too_long

-- ---- byte by byte: the line that is begun, and what one byte or the end of the input hands over

unfoldable pub begun_after : List ℕ → ℕ → List ℕ
begun_after begun b = cond (eqb b 10) [] (begun ++ (b ∷ []))

unfoldable pub on_byte : List ℕ → ℕ → List Given
on_byte begun b = cond (eqb b 10) (given begun ∷ []) []

unfoldable pub on_end : List ℕ → List Given
on_end begun = cond (none begun) [] (given begun ∷ [])

-- ---- the state: how many bytes the line has that is begun, with 513 for any number above 512; a buffer that begins with them

pub record Holds (len : ℕ) (buf begun : List ℕ) : Type 0 where
  pub room : length buf ≡ line_limit
  pub fits : length begun ≤ line_limit → (len ≡ length begun) × (take len buf ≡ begun)
  pub over : line_limit < length begun → len ≡ line_limit + 1

-- the number of a line that is begun: how many bytes it has, or 513
abbrev pub counted : Cut → ℕ
counted (Line n) = n
counted Long = line_limit + 1

-- how a line is cut off that ends with so many bytes counted
unfoldable pub event_of : ℕ → Cut
event_of len = cond (leb len line_limit) (Line len) Long

-- what `push` answers, counts then and leaves in the buffer, and what `finish` answers, for any state
unfoldable pub pushed_event : ℕ → ℕ → Option Cut
pushed_event len b = cond (eqb b 10) (Some (event_of len)) None

unfoldable pub pushed_len : ℕ → ℕ → ℕ
pushed_len len b = cond (eqb b 10) 0 (cond (ltb len line_limit) (len + 1) (line_limit + 1))

unfoldable pub pushed_buffer : ℕ → List ℕ → ℕ → List ℕ
pushed_buffer len buf b = cond (eqb b 10) buf (cond (ltb len line_limit) (splice buf len (b ∷ [])) buf)

unfoldable pub finished_event : ℕ → Option Cut
finished_event len = cond (eqb len 0) None (Some (event_of len))

pub record PushedAs (len : ℕ) (buf : List ℕ) (b : ℕ) (event : Option Cut) (next : ℕ) (after : List ℕ) : Type 0 where
  pub event_is : event ≡ pushed_event len b
  pub next_is : next ≡ pushed_len len b
  pub after_is : after ≡ pushed_buffer len buf b

-- what a cut, or none, says of the buffer
abbrev pub told : Option Cut → List ℕ → List Given
told None buf = []
told (Some (Line n)) buf = whole (take n buf) ∷ []
told (Some Long) buf = too_long ∷ []

-- .. a line that it tells of is in a buffer of this length
abbrev pub Within : Option Cut → ℕ → Type 0
Within None size = Unit {0}
Within (Some (Line n)) size = n ≤ size
Within (Some Long) size = Unit {0}

-- one byte b was fed into the line that is begun: what is told, and what is held now
pub record Fed (begun : List ℕ) (b : ℕ) (event : Option Cut) (len : ℕ) (buf : List ℕ) : Type 0 where
  pub tells : told event buf ≡ on_byte begun b
  pub holds : Holds len buf (begun_after begun b)

-- a run of `push` on each byte of an input and of `finish` at its end, by what the two promise, and what was told on the way
pub data Runs : ℕ → List ℕ → List ℕ → List Given → Type 0 where
  finishes : {len : ℕ} {buf : List ℕ} (event : Option Cut)
      → ((buf begun : List ℕ) → Holds len buf begun → told event buf ≡ on_end begun) → Runs len buf [] (told event buf)
  pushes : {len next b : ℕ} {buf after s : List ℕ} {rest : List Given} (event : Option Cut)
      → ((begun : List ℕ) → Holds len buf begun → Fed begun b event next after) → Runs next after s rest → Runs len buf (b ∷ s) (told event after ++ rest)
