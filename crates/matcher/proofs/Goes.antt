-- Labels that go on: what `begins_labels` says is so exactly where some labels go on from those known and fit the pattern.
-- A `*` that nothing known decides takes one byte, a `**` one label. Assumes nothing.
use mathlib.Core.Path.{◌≡◌, refl, sym, ap}
use mathlib.Core.List.{List, [], ◌∷◌, ◌++◌, map}
use mathlib.Core.Bool.{Bool, true, false, not, cond, ◌&&◌, ◌||◌}
use Prim.Native.Nat.{ℕ, suc}
use native.Mathlib.Omega.{arith}
use lib.ListN.{length, get_or}
use lib.Dec.{eqb}
use borrow.Author.Tests.{eq-eqb, ne_eqb, eqb-true, eqb-false, not-true}
use Rattle.buffer.specs.Lists.{none, all}
use Rattle.matcher.specs.Bytes.{star, label_byte}
use Rattle.matcher.specs.Labels.{deep}
use Rattle.matcher.specs.Form.{apart, path_label, pattern_label}
use Rattle.matcher.specs.Fit.{after_some, fit, fits_label, fit_labels}
use Rattle.matcher.specs.Reach.{begins_label, begins_labels}
use Rattle.buffer.proofs.Tests.{not_both, and_left, and_right, and_both, or_right, or_first, or_second}
use Rattle.buffer.proofs.Lists.{tested_append, tested_left}
use Rattle.glob.proofs.Trials.{now_some}

-- a byte of a pattern's label
abbrev pattern_byte : ℕ → Bool
pattern_byte c = label_byte c || eqb c star

deep_bytes : (l : List ℕ) → deep l ≡ true → all pattern_byte l ≡ true
deep_bytes [] e = refl
deep_bytes (a ∷ []) e = not_both e refl
deep_bytes (a ∷ b ∷ []) e =
    and_both (or_right (label_byte a) (eqb a star) (and_left (eqb a star) (eqb b star) e))
    (and_both (or_right (label_byte b) (eqb b star) (and_right (eqb a star) (eqb b star) e)) refl)
deep_bytes (a ∷ b ∷ c ∷ l) e =
    absurd (long (length l) (eqb-true (length (a ∷ b ∷ c ∷ l)) 2 (and_left (eqb (length (a ∷ b ∷ c ∷ l)) 2) (eqb a star && eqb b star) e)))
  where
    long : (n : ℕ) → suc (suc (suc n)) ≡ 2 → ⊥
    long n h = omega arith

apart_bytes : (l : List ℕ) → apart star l ≡ true → all pattern_byte l ≡ true
apart_bytes [] e = refl
apart_bytes (c ∷ l) e = and_both (go (eqb c star) (and_left (cond (eqb c star) (not (eqb (get_or l 0 0) star)) (label_byte c)) (apart star l) e)) (apart_bytes l (and_right (cond (eqb c star) (not (eqb (get_or l 0 0) star)) (label_byte c)) (apart star l) e))
  where
    go : (b : Bool) → cond b (not (eqb (get_or l 0 0) star)) (label_byte c) ≡ true → label_byte c || b ≡ true
    go true h = or_right (label_byte c) true refl
    go false h = rw h

pattern_bytes : (l : List ℕ) → pattern_label l ≡ true → all pattern_byte l ≡ true
pattern_bytes l e = go (deep l) refl (and_right (not (none l)) (deep l || apart star l) e)
  where
    go : (b : Bool) → deep l ≡ b → b || apart star l ≡ true → all pattern_byte l ≡ true
    go true q h = deep_bytes l q
    go false q h = apart_bytes l h

-- the byte that a `*` takes: x
abbrev pub filler : ℕ
filler = 0x78

some_after : {B : Type 0} (k : List B → Bool) (s t : List B) → k t ≡ true → after_some k (s ++ t) ≡ true
some_after k [] t e = now_some k t e
some_after k (x ∷ s) t e = or_right (k (x ∷ (s ++ t))) (after_some k (s ++ t)) (some_after k s t e)

-- ks go on as ls: all but the last of ks are the first of ls, and the last begins the next
abbrev pub Ext : List (List ℕ) → List (List ℕ) → Type 0
Ext [] ls = Unit {0}
Ext (k ∷ ks) [] = ⊥
Ext (k ∷ []) (l ∷ ls) = (m : List ℕ) × (k ++ m ≡ l)
Ext (k ∷ j ∷ ks) (l ∷ ls) = (k ≡ l) × Ext (j ∷ ks) ls

ext_append : (ks ls ms : List (List ℕ)) → Ext ks ls → Ext ks (ls ++ ms)
ext_append [] ls ms x = tt
ext_append (k ∷ ks) [] ms x = absurd x
ext_append (k ∷ []) (l ∷ ls) ms x = x
ext_append (k ∷ j ∷ ks) (l ∷ ls) ms x = (x.0, ext_append (j ∷ ks) ls ms x.1)

-- a label that fits begins as it should
begins_fits : (p k m : List ℕ) → fits_label p (k ++ m) ≡ true → begins_label p k ≡ true
unfolding fit
begins_fits [] [] m e = refl
begins_fits [] (x ∷ k) m e = e
begins_fits (c ∷ p) [] m e = refl
begins_fits (c ∷ p) (x ∷ k) m e = go (eqb star c) refl e (begins_fits p k m)
  where
    go : (b : Bool) → eqb star c ≡ b → cond b (after_some (fits_label p) (x ∷ (k ++ m))) (eqb c x && fits_label p (k ++ m)) ≡ true → (fits_label p (k ++ m) ≡ true → begins_label p k ≡ true) → begins_label (c ∷ p) (x ∷ k) ≡ true
    go true q f ih = rw (eq-eqb c star (sym (eqb-true star c q)))
    go false q f ih = or_right (eqb c star) (eqb c x && begins_label p k) (and_both (and_left (eqb c x) (fits_label p (k ++ m)) f) (ih (and_right (eqb c x) (fits_label p (k ++ m)) f)))

-- labels that fit begin as they should
pub begins_all : (ps ks ls : List (List ℕ)) → Ext ks ls → fit_labels ps ls ≡ true → begins_labels ps ks ≡ true
unfolding fit
begins_all [] [] ls x e = refl
begins_all [] (k ∷ ks) [] x e = absurd x
begins_all [] (k ∷ ks) (l ∷ ls) x e = e
begins_all (p ∷ ps) [] ls x e = refl
begins_all (p ∷ ps) (k ∷ ks) [] x e = absurd x
begins_all (p ∷ ps) (k ∷ []) (l ∷ ls) x e = go (deep p) e
  where
    go : (b : Bool) → cond b (after_some (fit_labels ps) (l ∷ ls)) (fits_label p l && fit_labels ps ls) ≡ true → b || begins_label p k ≡ true
    go true f = refl
    go false f = begins_fits p k x.0 (rw x.1 (and_left (fits_label p l) (fit_labels ps ls) f))
begins_all (p ∷ ps) (k ∷ j ∷ ks) (l ∷ ls) x e = go (deep p) e (begins_all ps (j ∷ ks) ls x.1)
  where
    go : (b : Bool) → cond b (after_some (fit_labels ps) (l ∷ ls)) (fits_label p l && fit_labels ps ls) ≡ true → (fit_labels ps ls ≡ true → begins_labels ps (j ∷ ks) ≡ true) → b || (fits_label p k && begins_labels ps (j ∷ ks)) ≡ true
    go true f ih = refl
    go false f ih = and_both {a = fits_label p k} (rw x.0 (and_left (fits_label p l) (fit_labels ps ls) f)) (ih (and_right (fits_label p l) (fit_labels ps ls) f))

-- a label that fits: `x` for each `*`
fill : List ℕ → List ℕ
fill [] = []
fill (c ∷ p) = cond (eqb star c) filler c ∷ fill p

fill_fits : (p : List ℕ) → fits_label p (fill p) ≡ true
unfolding fit fill
fill_fits [] = refl
fill_fits (c ∷ p) = go (eqb star c) (fill_fits p)
  where
    go : (b : Bool) → fits_label p (fill p) ≡ true → cond b (after_some (fits_label p) (cond b filler c ∷ fill p)) (eqb c (cond b filler c) && fits_label p (fill p)) ≡ true
    go true e = some_after (fits_label p) (filler ∷ []) (fill p) e
    go false e = and_both (eq-eqb c c refl) e

pub x_byte : label_byte filler ≡ true
unfolding label_byte
x_byte = refl

fill_bytes : (p : List ℕ) → all pattern_byte p ≡ true → all label_byte (fill p) ≡ true
unfolding fill
fill_bytes [] e = refl
fill_bytes (c ∷ p) e = and_both (go (eqb star c) refl (and_left (pattern_byte c) (all pattern_byte p) e)) (fill_bytes p (and_right (pattern_byte c) (all pattern_byte p) e))
  where
    go : (b : Bool) → eqb star c ≡ b → pattern_byte c ≡ true → label_byte (cond b filler c) ≡ true
    go true q h = x_byte
    go false q h = or_first (label_byte c) (eqb c star) (ne_eqb c star (λ z. eqb-false star c q (sym z))) h

-- a label that goes on from k and fits
record Goes (p k : List ℕ) : Type 0 where
  label : List ℕ
  more : List ℕ
  goes_on : k ++ more ≡ label
  fits : fits_label p label ≡ true
  bytes : all label_byte label ≡ true
  some : none p ≡ false → none label ≡ false

goes : (p k : List ℕ) → all pattern_byte p ≡ true → all label_byte k ≡ true → begins_label p k ≡ true → Goes p k
unfolding fit
goes [] [] a b e = record { label = []; more = []; goes_on = refl; fits = refl; bytes = refl; some = λ z. z }
goes [] (x ∷ k) a b e = not_both e refl
goes (c ∷ p) [] a b e = record { label = fill (c ∷ p); more = fill (c ∷ p); goes_on = refl; fits = fill_fits (c ∷ p); bytes = fill_bytes (c ∷ p) a; some = λ z. unfold fill in refl }
goes (c ∷ p) (x ∷ k) a b e = go (eqb star c) refl (goes p k (and_right (pattern_byte c) (all pattern_byte p) a) (and_right (label_byte x) (all label_byte k) b))
  where
    go : (d : Bool) → eqb star c ≡ d → (begins_label p k ≡ true → Goes p k) → Goes (c ∷ p) (x ∷ k)
    go true q ih = record { label = (x ∷ k) ++ fill p; more = fill p; goes_on = refl; fits = rw q (some_after (fits_label p) (x ∷ k) (fill p) (fill_fits p)); bytes = tested_append label_byte (x ∷ k) (fill p) b (fill_bytes p (and_right (pattern_byte c) (all pattern_byte p) a)); some = λ z. refl }
    go false q ih =
        let both : eqb c x && begins_label p k ≡ true = or_second (eqb c star) (eqb c x && begins_label p k) (ne_eqb c star (λ z. eqb-false star c q (sym z))) e in
        let g = ih (and_right (eqb c x) (begins_label p k) both) in
        record {
          label = x ∷ g.label;
          more = g.more;
          goes_on = ap (λ (l : List ℕ). x ∷ l) g.goes_on;
          fits = rw q (and_both (and_left (eqb c x) (begins_label p k) both) g.fits);
          bytes = and_both (and_left (label_byte x) (all label_byte k) b) g.bytes;
          some = λ z. refl;
        }

fill_none : (p : List ℕ) → none (fill p) ≡ none p
unfolding fill
fill_none [] = refl
fill_none (c ∷ p) = refl

fills_fit : (ps : List (List ℕ)) → fit_labels ps (map fill ps) ≡ true
unfolding fit
fills_fit [] = refl
fills_fit (p ∷ ps) = go (deep p) (fills_fit ps)
  where
    go : (b : Bool) → fit_labels ps (map fill ps) ≡ true → cond b (after_some (fit_labels ps) (fill p ∷ map fill ps)) (fits_label p (fill p) && fit_labels ps (map fill ps)) ≡ true
    go true e = some_after (fit_labels ps) (fill p ∷ []) (map fill ps) e
    go false e = and_both (fill_fits p) e

-- a label that fits, and labels that fit what remains; any labels, and then labels that fit what remains after `**`
fits_here : (p : List ℕ) (ps : List (List ℕ)) (l : List ℕ) (ls : List (List ℕ)) → deep p ≡ false → fits_label p l ≡ true → fit_labels ps ls ≡ true → fit_labels (p ∷ ps) (l ∷ ls) ≡ true
unfolding fit
fits_here p ps l ls q a b = rw q (and_both a b)

fits_deep : (p : List ℕ) (ps ls : List (List ℕ)) → deep p ≡ true → fit_labels (p ∷ ps) (ls ++ map fill ps) ≡ true
unfolding fit
fits_deep p ps ls q = rw q (some_after (fit_labels ps) ls (map fill ps) (fills_fit ps))

fills_formed : (ps : List (List ℕ)) → all pattern_label ps ≡ true → all path_label (map fill ps) ≡ true
fills_formed [] e = refl
fills_formed (p ∷ ps) e =
    let h : pattern_label p ≡ true = and_left (pattern_label p) (all pattern_label ps) e in
    and_both (and_both {a = not (none (fill p))} (rw (fill_none p) (and_left (not (none p)) (deep p || apart star p) h)) (fill_bytes p (pattern_bytes p h))) (fills_formed ps (and_right (pattern_label p) (all pattern_label ps) e))

-- labels that go on from ks and fit
pub record GoesAll (ps ks : List (List ℕ)) : Type 0 where
  pub labels : List (List ℕ)
  pub goes_on : Ext ks labels
  pub fits : fit_labels ps labels ≡ true
  pub formed : all path_label labels ≡ true
  pub some : none labels ≡ false

pub goes_all : (ps ks ls : List (List ℕ)) → all pattern_label ps ≡ true → Ext ks ls → all path_label ls ≡ true → (none ks ≡ true → none ps ≡ false) → begins_labels ps ks ≡ true → GoesAll ps ks
unfolding fit
goes_all [] [] ls a x w s e = not_both refl (s refl)
goes_all [] (k ∷ ks) ls a x w s e = not_both e refl
goes_all (p ∷ ps) [] ls a x w s e = record { labels = map fill (p ∷ ps); goes_on = tt; fits = fills_fit (p ∷ ps); formed = fills_formed (p ∷ ps) a; some = refl }
goes_all (p ∷ ps) (k ∷ ks) [] a x w s e = absurd x
goes_all (p ∷ ps) (k ∷ []) (l ∷ ls) a x w s e = go (deep p) refl e
  where
    h : pattern_label p ≡ true
    h = and_left (pattern_label p) (all pattern_label ps) a

    more : all path_label (map fill ps) ≡ true
    more = fills_formed ps (and_right (pattern_label p) (all pattern_label ps) a)

    bytes : all label_byte k ≡ true
    bytes = tested_left label_byte k x.0 (rw x.1 (and_right (not (none l)) (all label_byte l) (and_left (path_label l) (all path_label ls) w)))

    go : (b : Bool) → deep p ≡ b → b || begins_label p k ≡ true → GoesAll (p ∷ ps) (k ∷ [])
    go true q f = record {
      labels = (l ∷ ls) ++ map fill ps;
      goes_on = x;
      fits = fits_deep p ps (l ∷ ls) q;
      formed = tested_append path_label (l ∷ ls) (map fill ps) w more;
      some = refl;
    }
    go false q f =
        let g = goes p k (pattern_bytes p h) bytes f in
        record {
          labels = g.label ∷ map fill ps;
          goes_on = (g.more, g.goes_on);
          fits = fits_here p ps g.label (map fill ps) q g.fits (fills_fit ps);
          formed = and_both (and_both {a = not (none g.label)} (rw (g.some (not-true (none p) (and_left (not (none p)) (deep p || apart star p) h)))) g.bytes) more;
          some = refl;
        }
goes_all (p ∷ ps) (k ∷ j ∷ ks) (l ∷ ls) a x w s e = go (deep p) refl e (goes_all ps (j ∷ ks) ls (and_right (pattern_label p) (all pattern_label ps) a) x.1 (and_right (path_label l) (all path_label ls) w) (λ z. not_both z refl))
  where
    go : (b : Bool) → deep p ≡ b → b || (fits_label p k && begins_labels ps (j ∷ ks)) ≡ true → (begins_labels ps (j ∷ ks) ≡ true → GoesAll ps (j ∷ ks)) → GoesAll (p ∷ ps) (k ∷ j ∷ ks)
    go true q f ih = record {
      labels = (l ∷ ls) ++ map fill ps;
      goes_on = ext_append (k ∷ j ∷ ks) (l ∷ ls) (map fill ps) x;
      fits = fits_deep p ps (l ∷ ls) q;
      formed = tested_append path_label (l ∷ ls) (map fill ps) w (fills_formed ps (and_right (pattern_label p) (all pattern_label ps) a));
      some = refl;
    }
    go false q f ih =
        let g = ih (and_right (fits_label p k) (begins_labels ps (j ∷ ks)) f) in
        record {
          labels = k ∷ g.labels;
          goes_on = (refl, g.goes_on);
          fits = fits_here p ps k g.labels q (and_left (fits_label p k) (begins_labels ps (j ∷ ks)) f) g.fits;
          formed = and_both {a = path_label k} (rw x.0 (and_left (path_label l) (all path_label ls) w)) g.formed;
          some = refl;
        }
