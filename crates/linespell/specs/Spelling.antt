-- How replies and rows are spelled (document 01, `fieldlog`): `=,number,first,second` and `-,value,reference,path`, each ended by 0A hex.
-- Assumes nothing: these are definitions.
use Rattle.std.specs.Prelude.{ℕ, zero, suc, ◌+◌, ◌-◌, ◌/◌, ◌%◌, ◌≤◌, ◌≡◌, List, [], ◌∷◌, ◌++◌, cond, length, ltb}
use Rattle.linespell.specs.Sizes.{decimal_digits}
use Rattle.buffer.specs.Splice.{splice}
use Rattle.rows.specs.Entry.{Entry, entry_of}

-- n in decimal, in at most k + 1 digits, without leading zeros
unfoldable pub decimal_in : ℕ → ℕ → List ℕ
decimal_in zero n = (48 + n % 10) ∷ []
decimal_in (suc k) n = cond (ltb n 10) ((48 + n) ∷ []) (decimal_in k (n / 10) ++ ((48 + n % 10) ∷ []))

-- a number below 2^64 has at most 20 digits
unfoldable pub decimal : ℕ → List ℕ
decimal n = decimal_in (decimal_digits - 1) n

-- the hex digit worth d, in lower case
unfoldable pub glyph : ℕ → ℕ
glyph d = cond (ltb d 10) (48 + d) (87 + d)

-- two hex digits for a byte
unfoldable pub hex : List ℕ → List ℕ
hex [] = []
hex (b ∷ s) = glyph (b / 16) ∷ glyph (b % 16) ∷ hex s

-- `=,number,first,second`
unfoldable pub reply : ℕ → ℕ → ℕ → List ℕ
reply n first second = (61 ∷ 44 ∷ []) ++ (decimal n ++ ((44 ∷ []) ++ (decimal first ++ ((44 ∷ []) ++ (decimal second ++ (10 ∷ []))))))

-- `-,value,reference,path`
unfoldable pub entry_line : Entry → List ℕ
entry_line e =
    (45 ∷ 44 ∷ []) ++ (decimal e.value ++ ((44 ∷ []) ++ (hex e.reference ++ ((44 ∷ []) ++ (e.path ++ (10 ∷ []))))))

-- .. of a row of 229 bytes: that of its entry
abbrev pub row_line : List ℕ → List ℕ
row_line row = entry_line (entry_of row)

-- b was written into s from `at` on and fits there; what was written ends before `next`
pub record Wrote (s : List ℕ) (at : ℕ) (b after : List ℕ) (next : ℕ) : Type 0 where
  pub is : after ≡ splice s at b
  pub ends : next ≡ at + length b
  pub room : at + length b ≤ length s
