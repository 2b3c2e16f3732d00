-- The test `reach_of` says what it means, `Told`, of every pattern and all known bytes. Assumes nothing.
use mathlib.Core.Path.{◌≡◌, refl, sym, ap, subst, ◌∙◌}
use mathlib.Core.List.{List, [], ◌∷◌, ◌++◌, append_assoc, append-nil}
use mathlib.Core.Bool.{Bool, true, false, cond, ◌&&◌}
use Prim.Native.Nat.{ℕ, ◌-◌}
use lib.ListN.{length, take}
use lib.Dec.{eqb}
use borrow.Author.Tests.{eqb-true}
use Rattle.buffer.specs.Lists.{none, all}
use Rattle.matcher.specs.Bytes.{slash, star, end_byte, label_byte}
use Rattle.glob.specs.Labels.{Begun}
use Rattle.matcher.specs.Labels.{labels_of}
use Rattle.matcher.specs.Form.{apart, path_label, pattern_label, formed_pattern, path_form, pattern_form, is_fine}
use Rattle.matcher.specs.Fit.{fit, fit_labels, fits_path}
use Rattle.matcher.specs.Matches.{matches}
use Rattle.matcher.specs.Continued.{FirstBytes, Continued, ended, Told}
use Rattle.matcher.specs.Reach.{begins_path, is_first, begins_labels, reach_labels, reach_of, goes_on, Reached}
use Rattle.matcher.specs.declared.reach.Answer.{Answer}
use Rattle.matcher.specs.declared.reach.Answer.TheVariants.{Match, Mismatch, Incomplete}
use Rattle.buffer.proofs.Tests.{not_both, and_left, and_right, and_both, and_false}
use Rattle.matcher.proofs.Forms.{fine_path, fine_pattern, matches_pattern, matches_path, matches_fits, labelled_all}
use Rattle.matcher.proofs.Goes.{begins_all, goes_all}
use Rattle.matcher.proofs.Joined.{joined, join_begun, labels_of_join, formed_join, ext_join, prefix_ext}
use Rattle.matcher.proofs.Prefixes.{opened, before_last}
use Rattle.matcher.proofs.Firsts.{ended_whole, last_split, first_whole, whole_path, longer_path, first_tested}

pattern_some : (p : List ℕ) → formed_pattern p ≡ true → none (labels_of p) ≡ false
pattern_some [] e = not_both e refl
pattern_some (c ∷ p) e = rw (and_left (eqb c slash) (all pattern_label (labels_of (c ∷ p))) e)

pub begins_begun : (known : List ℕ) → begins_path known ≡ true → Begun known
begins_begun [] e = λ f. absurd (f refl)
begins_begun (c ∷ k) e = λ f. eqb-true c slash (and_left (eqb c slash) (apart slash (c ∷ k)) e)

-- the bytes known begin a path, and their labels can fit: some path goes on from them and fits
module _ (pattern known : List ℕ) (P : is_fine (pattern_form pattern) ≡ true) where
  goes_on_open : begins_path known ≡ true → begins_labels (labels_of pattern) (labels_of known) ≡ true → Continued pattern known
  goes_on_open b e =
      let k = opened known b in
      let formed = fine_pattern pattern P in
      let g = goes_all (labels_of pattern) (labels_of known) (labels_of k.path) (labelled_all pattern_label pattern formed) (prefix_ext known k.more k.path k.goes_on) (labelled_all path_label k.path k.is_path) (λ z. pattern_some pattern formed) e in
      let m = ext_join (labels_of known) g.labels g.goes_on in
      record {
        is_pattern = P;
        first = record {
          path = joined g.labels;
          is_path = formed_join g.labels g.some g.formed;
          more = m.0 ++ (end_byte ∷ []);
          goes_on = sym (append_assoc known m.0 (end_byte ∷ [])) ∙ ap (λ (s : List ℕ). s ++ (end_byte ∷ [])) (ap (λ (s : List ℕ). s ++ m.0) (sym (join_begun known (begins_begun known b))) ∙ m.1);
        };
        fits = subst (λ (l : List (List ℕ)). fit_labels (labels_of pattern) l ≡ true) (sym (labels_of_join g.labels g.formed)) g.fits;
      }

-- some path fits a formed pattern
pub some_fits : (pattern : List ℕ) → is_fine (pattern_form pattern) ≡ true → Continued pattern []
some_fits pattern P = goes_on_open pattern [] P refl (go (labels_of pattern) (pattern_some pattern (fine_pattern pattern P)))
  where
    go : (ps : List (List ℕ)) → none ps ≡ false → begins_labels ps [] ≡ true
    go [] h = not_both refl h
    go (p ∷ ps) h = refl

-- THE ANSWER SAYS WHAT IT MEANS: of a formed pattern and the first bytes of a path by the labels, else it is a mismatch
module _ (pattern known : List ℕ) (P : is_fine (pattern_form pattern) ≡ true) (F : is_first known ≡ true) where
  told_whole : ended known ≡ true → Told pattern known (cond (fits_path pattern (take (length known - 1) known)) Match Mismatch)
  told_whole o = go (fits_path pattern (take (length known - 1) known)) refl
    where
      whole : FirstBytes known
      whole = record { path = take (length known - 1) known; is_path = rw o at F; more = []; goes_on = append-nil known ∙ last_split known o }

      go : (b : Bool) → fits_path pattern (take (length known - 1) known) ≡ b → Told pattern known (cond b Match Mismatch)
      go true e = (record { is_pattern = P; first = whole; fits = e }, last_split known o)
      go false e = λ C. not_both (ap (fits_path pattern) (whole_path known C.first o) ∙ C.fits) e

  told_open : ended known ≡ false → Told pattern known (cond (begins_labels (labels_of pattern) (labels_of known)) Incomplete Mismatch)
  told_open o = go (begins_labels (labels_of pattern) (labels_of known)) refl
    where
      go : (b : Bool) → begins_labels (labels_of pattern) (labels_of known) ≡ b → Told pattern known (cond b Incomplete Mismatch)
      go true e = (goes_on_open pattern known P (rw o at F) e, o)
      go false e = λ C.
          let n = longer_path known C.first o in
          not_both (begins_all (labels_of pattern) (labels_of known) (labels_of C.first.path) (prefix_ext known n.0 C.first.path n.1) C.fits) e

  told_labels : Told pattern known (reach_labels pattern known)
  told_labels = go (ended known) refl
    where
      go : (d : Bool) → ended known ≡ d
          → Told pattern known (cond d (cond (fits_path pattern (take (length known - 1) known)) Match Mismatch) (cond (begins_labels (labels_of pattern) (labels_of known)) Incomplete Mismatch))
      go true e = told_whole e
      go false e = told_open e

pub told : (pattern known : List ℕ) → Told pattern known (reach_of pattern known)
unfolding reach_of
told pattern known = go (is_fine (pattern_form pattern) && is_first known) refl
  where
    go : (b : Bool) → is_fine (pattern_form pattern) && is_first known ≡ b → Told pattern known (cond b (reach_labels pattern known) Mismatch)
    go true e = told_labels pattern known (and_left (is_fine (pattern_form pattern)) (is_first known) e) (and_right (is_fine (pattern_form pattern)) (is_first known) e)
    go false e = λ C. not_both (and_both C.is_pattern (first_tested known C.first)) e

pub reached : (pattern known : List ℕ) (r : Answer) → r ≡ reach_of pattern known → Reached pattern known r
reached pattern known r e = record { is = e; told = subst (Told pattern known) (sym e) (told pattern known) }

-- the answer, as the code meets it
module _ (pattern known : List ℕ) where
  pub reach_unformed : is_fine (pattern_form pattern) ≡ false → reach_of pattern known ≡ Mismatch
  unfolding reach_of
  reach_unformed e = rw e

  pub reach_unlike : is_first known ≡ false → reach_of pattern known ≡ Mismatch
  unfolding reach_of
  reach_unlike e = rw (e, and_false (is_fine (pattern_form pattern)) false refl)

  pub reach_labels_lem : is_fine (pattern_form pattern) ≡ true → is_first known ≡ true → reach_labels pattern known ≡ reach_of pattern known
  unfolding reach_of
  reach_labels_lem P F = rw (P, F)

-- For callers. A path that matches is never missed: no bytes that begin it, with its end byte, are a mismatch
pub never_missed : (pattern path known more : List ℕ) → matches pattern path ≡ true → known ++ more ≡ path ++ (end_byte ∷ []) → goes_on (reach_of pattern known) ≡ true
never_missed pattern path known more e g = go (reach_of pattern known) (told pattern known)
  where
    P : is_fine (pattern_form pattern) ≡ true
    P = matches_pattern pattern path e

    C : Continued pattern known
    C = record { is_pattern = P; first = record { path = path; is_path = fine_path path (matches_path pattern path e); more = more; goes_on = g }; fits = sym (matches_fits pattern path P (matches_path pattern path e)) ∙ e }

    go : (r : Answer) → Told pattern known r → goes_on r ≡ true
    go Match t = refl
    go Incomplete t = refl
    go Mismatch t = absurd (t C)

-- what is not a mismatch can be continued
pub continued : (pattern known : List ℕ) → goes_on (reach_of pattern known) ≡ true → Continued pattern known
continued pattern known e = go (reach_of pattern known) (told pattern known) e
  where
    go : (r : Answer) → Told pattern known r → goes_on r ≡ true → Continued pattern known
    go Match t e = t.0
    go Incomplete t e = t.0
    go Mismatch t e = not_both e refl

-- a path with its end byte matches or does not
pub reach_path : (pattern path : List ℕ) → is_fine (path_form path) ≡ true → reach_of pattern (path ++ (end_byte ∷ [])) ≡ cond (matches pattern path) Match Mismatch
unfolding matches
reach_path pattern path e = go (is_fine (pattern_form pattern)) refl
  where
    known : List ℕ
    known = path ++ (end_byte ∷ [])

    labels : reach_labels pattern known ≡ cond (fits_path pattern path) Match Mismatch
    labels = rw (ended_whole path, before_last path end_byte)

    go : (f : Bool) → is_fine (pattern_form pattern) ≡ f → reach_of pattern known ≡ cond (is_fine (pattern_form pattern) && (is_fine (path_form path) && fits_path pattern path)) Match Mismatch
    go true P = sym (reach_labels_lem pattern known P (first_tested known (first_whole path (fine_path path e)))) ∙ labels ∙ rw (P, e)
    go false P = reach_unformed pattern known P ∙ rw P

-- P10, in full: no path that begins with `/gs/` matches `/fs/*`
pub p10_none : Continued (slash ∷ 102 ∷ 115 ∷ slash ∷ star ∷ []) (slash ∷ 103 ∷ 115 ∷ slash ∷ []) → ⊥
unfolding reach_of pattern_form label_byte fit
p10_none = told (slash ∷ 102 ∷ 115 ∷ slash ∷ star ∷ []) (slash ∷ 103 ∷ 115 ∷ slash ∷ [])
