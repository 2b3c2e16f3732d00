-- Worked cases of the definitions, computed. Assumes nothing.
use mathlib.Core.Path.{◌≡◌, refl}
use mathlib.Core.List.{[], ◌∷◌}
use Rattle.linecut.specs.Input.{lines_from, lines_of}

-- no input has no line, a lone 0A one that is empty, and the last line may lack its 0A
no_line : lines_of [] ≡ []
unfolding lines_from
no_line = refl

one_line : lines_of (10 ∷ []) ≡ [] ∷ []
unfolding lines_from
one_line = refl

two_lines : lines_of (97 ∷ 10 ∷ 10 ∷ []) ≡ (97 ∷ []) ∷ [] ∷ []
unfolding lines_from
two_lines = refl

last_line : lines_of (10 ∷ 97 ∷ []) ≡ [] ∷ (97 ∷ []) ∷ []
unfolding lines_from
last_line = refl
