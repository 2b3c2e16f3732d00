-- What was read of a line: what every meaning that begins with a field, or with a number, becomes. Assumes nothing: these are definitions.
use Rattle.std.specs.Prelude.{ℕ, ◌≡◌, List, Option, Some, None, drop}
use Rattle.std.specs.Borrow.{Bor}
use Rattle.linefields.specs.Fields.{number_of}
use Rattle.logline.specs.Meaning.{Meaning, with_field, with_number}
use Rattle.logline.specs.Meaning.Meaning.{misread}
use Rattle.logline.specs.declared.reader.Line.{Line}

-- what remains of a line
abbrev pub rest_of : Line → List ℕ
rest_of l = drop l.at l.bytes.now

-- k of the field that was read
abbrev pub with_part : Option (Bor (List ℕ)) → (List ℕ → Meaning) → Meaning
with_part (Some f) k = k f.now
with_part None k = misread

-- r is the field that s begins with, if it does, and t what remains after its comma
pub record FieldRead (s : List ℕ) (r : Option (Bor (List ℕ))) (t : List ℕ) : Type 0 where
  pub means : (k : List ℕ → List ℕ → Meaning) → with_field s k ≡ with_part r (λ f. k f t)

-- .. the number of that field
pub record NumberRead (s : List ℕ) (r : Option ℕ) (t : List ℕ) : Type 0 where
  pub means : (k : ℕ → List ℕ → Meaning) → with_field s (λ f t. with_number (number_of f) (λ n. k n t)) ≡ with_number r (λ n. k n t)
