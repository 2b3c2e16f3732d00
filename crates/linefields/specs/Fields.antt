-- The fields of a line of `fieldlog`: where one ends, what a number is, what a reference is (document 01, `fieldlog`).
-- Assumes nothing: these are definitions.
use Rattle.std.specs.Prelude.{ℕ, suc, ◌+◌, ◌-◌, ◌*◌, ◌^◌, List, [], ◌∷◌, Bool, true, false, cond, not, ◌&&◌, ◌||◌, Option, Some, None, length, ltb, leb, eqb}
use Rattle.linefields.specs.Sizes.{reference_digits}
use Rattle.buffer.specs.Lists.{all}

-- how many bytes stand before the first comma; all of them where there is none
unfoldable pub width : List ℕ → ℕ
width [] = 0
width (b ∷ s) = cond (eqb b 44) 0 (suc (width s))

-- the one byte b
unfoldable pub only : ℕ → List ℕ → Bool
only b [] = false
only b (x ∷ []) = eqb x b
only b (x ∷ y ∷ s) = false

-- ---- numbers: decimal, below 2^64, without leading zeros

-- `0` to `9`
abbrev pub digit : ℕ → Bool
digit b = leb 48 b && leb b 57

-- the number n with the digits s written behind it
unfoldable pub number_from : ℕ → List ℕ → Option ℕ
number_from n [] = cond (ltb n (2 ^ 64)) (Some n) None
number_from n (b ∷ s) = cond (digit b) (number_from (n * 10 + (b - 48)) s) None

-- not empty, and no leading zero: `0` is a number, `00` and `07` are not
unfoldable pub plain : List ℕ → Bool
plain [] = false
plain (b ∷ []) = true
plain (b ∷ c ∷ s) = not (eqb b 48)

unfoldable pub number_of : List ℕ → Option ℕ
number_of s = cond (plain s) (number_from 0 s) None

-- ---- references: 40 lower-case hex digits, two for a byte

-- `0` to `9` and `a` to `f`
unfoldable pub hex_digit : ℕ → Bool
hex_digit b = digit b || (leb 97 b && leb b 102)

-- what a hex digit is worth
unfoldable pub hex_value : ℕ → ℕ
hex_value b = cond (digit b) (b - 48) (cond (leb 97 b && leb b 102) (b - 87) 0)

unfoldable pub is_reference : List ℕ → Bool
is_reference s = eqb (length s) reference_digits && all hex_digit s

unfoldable pub unhex : List ℕ → List ℕ
unhex [] = []
unhex (a ∷ []) = []
unhex (a ∷ b ∷ s) = (hex_value a * 16 + hex_value b) ∷ unhex s
