-- What a line of `fieldlog` means (document 01, `fieldlog`): `M,L,τ`, or `+,value,reference,path`, or `?,low,high,pattern`. A line is read
-- field by field, and the path or pattern is all that remains, commas included. Worked in session/specs/Worked.antt. Assumes nothing: these are
-- definitions.
use Rattle.std.specs.Prelude.{ℕ, ◌+◌, ◌≡◌, List, Option, Some, None, cond, length, take, drop, ltb}
use Rattle.linecut.specs.Sizes.{line_limit}
use Rattle.linecut.specs.Input.{Given}
use Rattle.linecut.specs.Input.Given.{whole, too_long}
use Rattle.linefields.specs.Fields.{width, only, number_of, is_reference, unhex}
use Rattle.logline.specs.declared.command.Command.{Command}
use Rattle.logline.specs.declared.command.Command.TheVariants.{Setup, Add, Search}

pub data Meaning : Type 0 where
  setup : ℕ → ℕ → ℕ → Meaning  -- M, L, τ
  addition : ℕ → List ℕ → List ℕ → Meaning  -- value, reference (20 bytes), path
  searching : ℕ → ℕ → List ℕ → Meaning  -- low, high, pattern
  misread : Meaning  -- number 12

-- a field and what remains after its comma; without a comma there is no such field
unfoldable pub with_field : List ℕ → (List ℕ → List ℕ → Meaning) → Meaning
with_field s k = cond (ltb (width s) (length s)) (k (take (width s) s) (drop (width s + 1) s)) misread

abbrev pub with_number : Option ℕ → (ℕ → Meaning) → Meaning
with_number (Some n) k = k n
with_number None k = misread

-- `value,reference,path`
abbrev pub addition_of : List ℕ → Meaning
addition_of s =
    with_field s (λ v r. with_number (number_of v) (λ value.
    with_field r (λ h path. cond (is_reference h) (addition value (unhex h) path) misread)))

-- `low,high,pattern`
abbrev pub search_of : List ℕ → Meaning
search_of s =
    with_field s (λ a r. with_number (number_of a) (λ low.
    with_field r (λ b pattern. with_number (number_of b) (λ high. searching low high pattern))))

-- M, and then `L,τ`: nothing follows the third number
abbrev pub setup_of : List ℕ → List ℕ → Meaning
setup_of a s =
    with_number (number_of a) (λ m.
    with_field s (λ b t. with_number (number_of b) (λ l. with_number (number_of t) (λ tau. setup m l tau))))

-- by its first field, `+`, `?` or M
abbrev pub line_of : List ℕ → Meaning
line_of s = with_field s (λ f r. cond (only 43 f) (addition_of r) (cond (only 63 f) (search_of r) (setup_of f r)))

-- a line over 512 bytes is misread, whatever it holds
abbrev pub meaning : List ℕ → Meaning
meaning s = cond (ltb line_limit (length s)) misread (line_of s)

-- .. so is one that is handed over without its bytes
abbrev pub meaning_of : Given → Meaning
meaning_of (whole l) = meaning l
meaning_of too_long = misread

-- ---- a command, or none

abbrev pub meant : Option Command → Meaning
meant (Some (Setup m l tau)) = setup m l tau
meant (Some (Add value reference path)) = addition value reference path.now
meant (Some (Search low high pattern)) = searching low high pattern.now
meant None = misread

-- the command r, or none, says m
pub record Says (m : Meaning) (r : Option Command) : Type 0 where
  pub means : meant r ≡ m
