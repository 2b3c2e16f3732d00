-- The bytes with which every path that fits a pattern begins. Assumes nothing: these are definitions.
use Rattle.std.specs.Prelude.{ℕ, ◌≤◌, ◌≡◌, List, [], ◌∷◌, Bool, true, false, not, ◌||◌, length, take, drop, get_or, eqb}
use Rattle.glob.specs.Bytes.{slash}
use Rattle.glob.specs.Fit.{fits_label, fits_path}

-- the first n bytes of the pattern are such: a path that begins with `/` and differs there does not fit
pub record LiteralPrefix (pattern : List ℕ) (n : ℕ) : Type 0 where
  pub in_pattern : n ≤ length pattern
  pub begins : (path : List ℕ) → get_or path 0 0 ≡ slash → fits_path pattern path ≡ true → take n path ≡ take n pattern

-- two lists differ at a place that both have
abbrev pub differs : List ℕ → List ℕ → Bool
differs [] s = false
differs (c ∷ l) [] = false
differs (c ∷ l) (x ∷ s) = not (eqb c x) || differs l s

-- ---- what the function below the public ones promises

-- each label that fits l, a label of a pattern, begins with its first n bytes, and what stands behind fits the others
pub record Plain (l : List ℕ) (n : ℕ) : Type 0 where
  pub in_label : n ≤ length l
  pub passes : (k : List ℕ) → fits_label l k ≡ true → (take n k ≡ take n l) × (fits_label (drop n l) (drop n k) ≡ true)
