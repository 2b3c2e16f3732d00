-- Worked cases of the definitions, computed. Assumes nothing.
use mathlib.Core.Path.{◌≡◌, refl}
use mathlib.Core.List.{[], ◌∷◌}
use Rattle.linespell.specs.Spelling.{decimal_in, decimal, reply}

-- `=,0,1,4`
a_reply : reply 0 1 4 ≡ 61 ∷ 44 ∷ 48 ∷ 44 ∷ 49 ∷ 44 ∷ 52 ∷ 10 ∷ []
unfolding reply decimal decimal_in
a_reply = refl

all_digits : decimal 18446744073709551615 ≡ 49 ∷ 56 ∷ 52 ∷ 52 ∷ 54 ∷ 55 ∷ 52 ∷ 52 ∷ 48 ∷ 55 ∷ 51 ∷ 55 ∷ 48 ∷ 57 ∷ 53 ∷ 53 ∷ 49 ∷ 54 ∷ 49 ∷ 53 ∷ []
unfolding decimal decimal_in
all_digits = refl
