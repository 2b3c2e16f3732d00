-- What a formed pattern and a formed path are known to be. Assumes nothing.
use mathlib.Core.Path.{◌≡◌, refl}
use mathlib.Core.List.{List, [], ◌∷◌}
use mathlib.Core.Bool.{Bool, true, false, cond, ◌&&◌, ◌||◌}
use Prim.Native.Nat.{ℕ, suc, ◌+◌, ◌≤◌}
use native.Mathlib.Omega.{arith}
use lib.ListN.{length, get_or}
use lib.Dec.{eqb}
use Rattle.std.specs.Prelude.{Ok, Err}
use Rattle.buffer.specs.Lists.{all}
use Rattle.matcher.specs.Bytes.{slash}
use Rattle.matcher.specs.Labels.{up_to_slash, labels_of}
use Rattle.matcher.specs.Form.{pattern_label, labelled, formed_path, formed_pattern, too_long, too_many, path_form, pattern_form, is_fine}
use Rattle.matcher.specs.Fit.{fits_path}
use Rattle.matcher.specs.Matches.{matches}
use Rattle.matcher.specs.declared.form.FormError.TheVariants.{TooLong, Malformed}
use Rattle.buffer.proofs.Tests.{not_both, and_left, and_right}

fine : (long formed : Bool) → is_fine (cond long (Err TooLong) (cond formed (Ok tt) (Err Malformed))) ≡ true → formed ≡ true
fine true formed e = not_both e refl
fine false true e = refl
fine false false e = not_both e refl

pub fine_path : (s : List ℕ) → is_fine (path_form s) ≡ true → formed_path s ≡ true
unfolding path_form
fine_path s e = fine (too_long s) (formed_path s) e

pub fine_pattern : (p : List ℕ) → is_fine (pattern_form p) ≡ true → formed_pattern p ≡ true
unfolding pattern_form
fine_pattern p e = fine (too_long p || too_many p) (formed_pattern p) e

pub labelled_all : (label : List ℕ → Bool) (s : List ℕ) → labelled label s ≡ true → all label (labels_of s) ≡ true
labelled_all label s e = and_right (eqb (get_or s 0 0) slash) (all label (labels_of s)) e

-- a label of a pattern takes its `/` and at least one byte
label_long : (l : List ℕ) → pattern_label l ≡ true → 1 ≤ length l
label_long [] e = not_both e refl
label_long (c ∷ l) e = omega arith

labels_long : (s : List ℕ) → all pattern_label (labels_of s) ≡ true → length (labels_of s) + length (labels_of s) + length (up_to_slash s) ≤ length s
labels_long [] e = omega arith
labels_long (c ∷ s) e = go (eqb c slash) (labels_long s) e
  where
    go : (b : Bool) → (all pattern_label (labels_of s) ≡ true → length (labels_of s) + length (labels_of s) + length (up_to_slash s) ≤ length s)
        → let ls = cond b (up_to_slash s ∷ labels_of s) (labels_of s) in all pattern_label ls ≡ true → length ls + length ls + length (cond b [] (c ∷ up_to_slash s)) ≤ suc (length s)
    go true h f = omega (arith, h (and_right (pattern_label (up_to_slash s)) (all pattern_label (labels_of s)) f), label_long (up_to_slash s) (and_left (pattern_label (up_to_slash s)) (all pattern_label (labels_of s)) f))
    go false h f = omega (arith, h f)

pub pattern_long : (p : List ℕ) → formed_pattern p ≡ true → length (labels_of p) + length (labels_of p) ≤ length p
pattern_long p e = omega (arith, labels_long p (labelled_all pattern_label p e))

-- where both are formed, to match is to fit
pub matches_fits : (p s : List ℕ) → is_fine (pattern_form p) ≡ true → is_fine (path_form s) ≡ true → matches p s ≡ fits_path p s
unfolding matches
matches_fits p s e f = rw (e, f)

pub matches_pattern : (p s : List ℕ) → matches p s ≡ true → is_fine (pattern_form p) ≡ true
unfolding matches
matches_pattern p s e = and_left (is_fine (pattern_form p)) (is_fine (path_form s) && fits_path p s) e

pub matches_path : (p s : List ℕ) → matches p s ≡ true → is_fine (path_form s) ≡ true
unfolding matches
matches_path p s e = and_left (is_fine (path_form s)) (fits_path p s) (and_right (is_fine (pattern_form p)) (is_fine (path_form s) && fits_path p s) e)
