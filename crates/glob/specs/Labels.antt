-- The labels of a path or a pattern. Assumes nothing: these are definitions.
use Rattle.std.specs.Prelude.{ℕ, ◌<◌, ◌≡◌, List, [], ◌∷◌, Bool, cond, ◌&&◌, length, get_or, eqb}
use Rattle.glob.specs.Bytes.{slash, star}

-- the bytes before the first `/`
abbrev pub up_to_slash : List ℕ → List ℕ
up_to_slash [] = []
up_to_slash (c ∷ s) = cond (eqb c slash) [] (c ∷ up_to_slash s)

-- each `/` begins a label, which goes up to the next `/` or the end
abbrev pub labels_of : List ℕ → List (List ℕ)
labels_of [] = []
labels_of (c ∷ s) = cond (eqb c slash) (up_to_slash s ∷ labels_of s) (labels_of s)

-- the label `**`
abbrev pub deep : List ℕ → Bool
deep l = eqb (length l) 2 && (eqb (get_or l 0 0) star && eqb (get_or l 1 0) star)

-- a list that begins with `/`, if it is not empty
abbrev pub Begun : List ℕ → Type 0
Begun l = (length l ≡ 0 → ⊥) → get_or l 0 0 ≡ slash

-- l is the first label of s, and t, which is shorter, holds the others
pub record FirstLabel (s l t : List ℕ) : Type 0 where
  pub labels : labels_of s ≡ l ∷ labels_of t
  pub shorter : length t < length s
