-- Labels of which the last may go on, as tests that compute. Assumes nothing: these are definitions.
use Rattle.std.specs.Prelude.{ℕ, List, [], ◌∷◌, Bool, true, cond, ◌&&◌, ◌||◌, eqb}
use Rattle.buffer.specs.Lists.{none}
use Rattle.glob.specs.Bytes.{star}
use Rattle.glob.specs.Labels.{deep}
use Rattle.glob.specs.Fit.{fits_label}

-- a label that may go on: its bytes agree with the pattern's up to the first `*`, after which all may follow
abbrev pub begins_label : List ℕ → List ℕ → Bool
begins_label [] k = none k
begins_label (c ∷ p) [] = true
begins_label (c ∷ p) (x ∷ k) = eqb c star || (eqb c x && begins_label p k)

-- labels of which the last may go on: they agree with the pattern's up to the first `**`, after which all may follow
abbrev pub begins_labels : List (List ℕ) → List (List ℕ) → Bool
begins_labels [] ks = none ks
begins_labels (p ∷ ps) [] = true
begins_labels (p ∷ ps) (k ∷ ks) = deep p || cond (none ks) (begins_label p k) (fits_label p k && begins_labels ps ks)
