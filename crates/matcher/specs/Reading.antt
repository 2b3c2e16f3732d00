-- `fit`, read one step at a time, in the words of document 01. Every pattern and every path is one of these cases, so that they say all that
-- `fit` is. Assumes nothing.
use Rattle.std.specs.Prelude.{◌≡◌, refl, List, [], ◌∷◌, Bool, true, false, ◌&&◌, ◌||◌, ℕ, length, eqb}
use Rattle.std.proofs.Common.{ap₂, arith, eqb-true, ne_eqb}
use Rattle.buffer.specs.Lists.{none}
use Rattle.buffer.proofs.Tests.{and_left, and_right}
use Rattle.matcher.specs.Bytes.{star}
use Rattle.matcher.specs.Labels.{deep}
use Rattle.matcher.specs.Fit.{fit, fits_label, fit_labels}

-- the label `**`
abbrev pub stars : List ℕ
stars = star ∷ star ∷ []

-- it is what `deep` tests for
pub deep_stars : (p : List ℕ) → deep p ≡ true → p ≡ stars
deep_stars [] e = let z : ◌≡◌ {A = Bool} false true = e in let w : ◌≡◌ {A = ℕ} 0 1 = cc in absurd (omega arith)
deep_stars (x ∷ []) e = let z : ◌≡◌ {A = Bool} false true = e in let w : ◌≡◌ {A = ℕ} 0 1 = cc in absurd (omega arith)
deep_stars (x ∷ y ∷ []) e = ap₂ (λ (a b : ℕ). a ∷ b ∷ []) (eqb-true x star (and_left (eqb x star) (eqb y star) e)) (eqb-true y star (and_right (eqb x star) (eqb y star) e))
deep_stars (x ∷ y ∷ z ∷ p) e = let l = eqb-true (length (x ∷ y ∷ z ∷ p)) 2 (and_left (eqb (length (x ∷ y ∷ z ∷ p)) 2) (eqb x star && eqb y star) e) in absurd (omega arith)

not_deep : (p : List ℕ) → (p ≡ stars → ⊥) → deep p ≡ false
not_deep p f = go (deep p) (deep_stars p)
  where
    go : (b : Bool) → (b ≡ true → p ≡ stars) → b ≡ false
    go true h = absurd (f (h refl))
    go false h = refl

-- `**` gives way to the next label of the pattern, or takes one label and is tried again
pub deep_step : (ps : List (List ℕ)) (l : List ℕ) (ls : List (List ℕ)) → fit_labels (stars ∷ ps) (l ∷ ls) ≡ fit_labels ps (l ∷ ls) || fit_labels (stars ∷ ps) ls
unfolding fit
deep_step ps l ls = refl

pub deep_end : (ps : List (List ℕ)) → fit_labels (stars ∷ ps) [] ≡ fit_labels ps []
unfolding fit
deep_end ps = refl

-- any other label takes one label: after it fits, the pattern that remains is tried against the rest of the path
pub label_step : (p : List ℕ) (ps : List (List ℕ)) (l : List ℕ) (ls : List (List ℕ)) → (p ≡ stars → ⊥) → fit_labels (p ∷ ps) (l ∷ ls) ≡ fits_label p l && fit_labels ps ls
unfolding fit
label_step p ps l ls n = rw (not_deep p n, fit)

pub label_end : (p : List ℕ) (ps : List (List ℕ)) → (p ≡ stars → ⊥) → fit_labels (p ∷ ps) [] ≡ false
unfolding fit
label_end p ps n = rw (not_deep p n, fit)

-- where no label of the pattern remains, no label of the path may
pub labels_end : (ls : List (List ℕ)) → fit_labels [] ls ≡ none ls
unfolding fit
labels_end ls = refl

-- `*` takes zero or more bytes of the label
pub star_step : (p : List ℕ) (x : ℕ) (l : List ℕ) → fits_label (star ∷ p) (x ∷ l) ≡ fits_label p (x ∷ l) || fits_label (star ∷ p) l
unfolding fit
star_step p x l = refl

pub star_end : (p : List ℕ) → fits_label (star ∷ p) [] ≡ fits_label p []
unfolding fit
star_end p = refl

-- any other byte takes itself
pub byte_step : (c : ℕ) (p : List ℕ) (x : ℕ) (l : List ℕ) → (star ≡ c → ⊥) → fits_label (c ∷ p) (x ∷ l) ≡ eqb c x && fits_label p l
unfolding fit
byte_step c p x l n = rw (ne_eqb star c n, fit)

pub byte_end : (c : ℕ) (p : List ℕ) → (star ≡ c → ⊥) → fits_label (c ∷ p) [] ≡ false
unfolding fit
byte_end c p n = rw (ne_eqb star c n, fit)

-- where no byte of the pattern's label remains, no byte of the path's may
pub bytes_end : (l : List ℕ) → fits_label [] l ≡ none l
unfolding fit
bytes_end l = refl
