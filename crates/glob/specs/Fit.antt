-- What it is to fit a pattern (Definition 3). One definition, `fit`, serves twice: for the bytes of a label, with `*`, and for the labels of a path, with `**`.
-- Assumes nothing: these are definitions. Worked cases are in proofs/Worked.antt.
use Rattle.std.specs.Prelude.{List, [], ◌∷◌, Bool, false, cond, ◌&&◌, ◌||◌, eqb, ℕ}
use Rattle.buffer.specs.Lists.{none}
use Rattle.glob.specs.Bytes.{star}
use Rattle.glob.specs.Labels.{labels_of, deep}

-- k holds of s once some of its first elements are taken away: none, or any number of them
abbrev pub after_some : {B : Type 0} → (List B → Bool) → List B → Bool
after_some k [] = k []
after_some k (x ∷ s) = k (x ∷ s) || after_some k s

-- s has a first element, which passes f, and k holds of the others
abbrev pub first : {B : Type 0} → (B → Bool) → (List B → Bool) → List B → Bool
first f k [] = false
first f k (x ∷ s) = f x && k s

-- s fits a pattern: a wild element of the pattern takes zero or more elements of s, any other element of the pattern takes one
unfoldable pub fit : {A B : Type 0} → (A → Bool) → (A → B → Bool) → List A → List B → Bool
fit wild one [] = none
fit wild one (a ∷ p) = λ s. cond (wild a) (after_some (fit wild one p) s) (first (one a) (fit wild one p) s)

-- a label fits a label of a pattern: `*` takes zero or more bytes, any other byte takes itself
abbrev pub fits_label : List ℕ → List ℕ → Bool
fits_label = fit (eqb star) eqb

-- labels fit the labels of a pattern: `**` takes zero or more labels, any other label takes one
abbrev pub fit_labels : List (List ℕ) → List (List ℕ) → Bool
fit_labels = fit deep fits_label

-- a path fits a pattern, by its labels
abbrev pub fits_path : List ℕ → List ℕ → Bool
fits_path pattern path = fit_labels (labels_of pattern) (labels_of path)
