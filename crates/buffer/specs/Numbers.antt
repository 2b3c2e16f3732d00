-- Numbers as bytes, highest first. Assumes nothing: these are definitions.
use Rattle.std.specs.Prelude.{ℕ, zero, suc, ◌+◌, ◌*◌, ◌/◌, ◌%◌, ◌^◌, List, [], ◌∷◌, Bool, length, ltb}

-- n in k bytes, highest first. Only a number that k bytes can hold has a byte for its first digit.
unfoldable pub bytes_of : ℕ → ℕ → List ℕ
bytes_of zero n = []
bytes_of (suc k) n = n / 256 ^ k ∷ bytes_of k (n % 256 ^ k)

-- the number that bytes are, highest first
unfoldable pub number : List ℕ → ℕ
number [] = 0
number (b ∷ s) = b * 256 ^ length s + number s

-- a byte
abbrev pub byte : ℕ → Bool
byte b = ltb b 256
