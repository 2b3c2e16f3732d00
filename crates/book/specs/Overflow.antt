-- The rule of digits is the rule of overflow (proved in proofs/Overflow.antt). Assumes nothing: these are definitions.
use Rattle.std.specs.Prelude.{ℕ, zero, suc, ◌+◌, ◌<◌, ◌≡◌, List, [], ◌∷◌, ◌++◌, length}
use Rattle.rows.specs.Entry.{Entry}
use Rattle.book.specs.Digits.{digit, quotient, level, small}

-- the entries of the levels below l, the highest first, then the small trie's: oldest first
unfoldable pub from_highest : ℕ → ℕ → List Entry → List Entry
from_highest m zero es = small m es
from_highest m (suc l) es = level m l es ++ from_highest m l es

-- an addition that leaves the small trie below M entries
pub record Stays (m : ℕ) (es : List Entry) (e : Entry) : Type 0 where
  pub levels : (i : ℕ) → level m i (es ++ (e ∷ [])) ≡ level m i es
  pub last : small m (es ++ (e ∷ [])) ≡ small m es ++ (e ∷ [])

-- the addition that brings it to M entries empties it: its entries and those of all levels below the first empty level, j, go into that level
pub record Overflows (m j : ℕ) (es : List Entry) (e : Entry) : Type 0 where
  pub into : level m j (es ++ (e ∷ [])) ≡ from_highest m j es ++ (e ∷ [])
  pub lower : (i : ℕ) → i < j → level m i (es ++ (e ∷ [])) ≡ []
  pub higher : (i : ℕ) → j < i → level m i (es ++ (e ∷ [])) ≡ level m i es
  pub emptied : small m (es ++ (e ∷ [])) ≡ []

abbrev pub RuleOfOverflow : Type 0
RuleOfOverflow =
    (m : ℕ) (es : List Entry) (e : Entry) →
    (length (small m es) + 1 < m → Stays m es e)
    × ((j : ℕ) → length (small m es) + 1 ≡ m → digit j (quotient m es) ≡ 0 → ((i : ℕ) → i < j → digit i (quotient m es) ≡ 1) → Overflows m j es e)
