-- The first label of a list: `FirstLabel`, and what the laws of `fit` say under it. Assumes nothing.
use mathlib.Core.Path.{◌≡◌, refl, sym, ap, subst, ◌∙◌}
use mathlib.Core.List.{List, [], ◌∷◌}
use mathlib.Core.Bool.{Bool, true, false, cond, ◌&&◌}
use mathlib.Core.Logic.{⊎_elim}
use Prim.Native.Nat.{ℕ, zero, suc, ◌+◌, ◌-◌, ◌<◌, ◌≤◌}
use native.Mathlib.Decide.{dec_le}
use native.Mathlib.Nat.{lt_of_not-le}
use native.Mathlib.Omega.{arith}
use lib.ListN.{length, take, drop, get_or, length-drop}
use lib.Seq.{drop-drop, get_or-drop, take_all, drop-length}
use lib.Dec.{eqb}
use borrow.Author.Tests.{eq-eqb, ne_eqb, eqb-true}
use Rattle.std.proofs.Common.{Option, Some, None, IfSome, MatchOption}
use Rattle.buffer.specs.Lists.{none}
use Rattle.glob.specs.Bytes.{slash, star}
use Rattle.glob.specs.Labels.{up_to_slash, labels_of, deep, Begun, FirstLabel}
use Rattle.glob.specs.Fit.{after_some, first, fit, fits_label, fit_labels}
use Rattle.glob.specs.Inner.{Says, Skipped, Next, OffLabels}
use Rattle.glob.specs.declared.fit.Trial.{Trial}
use Rattle.buffer.proofs.Tests.{and_right, and_false, not_both, same?}
use Rattle.glob.proofs.Parts.{tail_part, no_items, front, back, back_step, back_end, length_back, step}
use Rattle.glob.proofs.Skips.{skip_none, skip_to}
use Rattle.glob.proofs.Trials.{fit_wild, fit_one, byte_law, end_law, Tried, tried_on, first_on, first_off, last_only, last_later}

-- in what stands up to the first `/` there is none
up_none : (t : List ℕ) (j : ℕ) → j < length (up_to_slash t) → get_or t j 0 ≡ slash → ⊥
up_none [] j l e = absurd (omega arith)
up_none (c ∷ t) j l e = go (eqb c slash) refl (up_none t) j l e
  where
    go : (b : Bool) → eqb c slash ≡ b → ((m : ℕ) → m < length (up_to_slash t) → get_or t m 0 ≡ slash → ⊥) → (m : ℕ) → m < length (cond b [] (c ∷ up_to_slash t)) → get_or (c ∷ t) m 0 ≡ slash → ⊥
    go true q ih m l e = absurd (omega arith)
    go false q ih zero l e = not_both (eq-eqb c slash e) q
    go false q ih (suc m) l e = ih m (omega arith) e

-- a list is what stands up to its first `/`, and then what begins there
pub take_up : (t : List ℕ) → take (length (up_to_slash t)) t ≡ up_to_slash t
take_up [] = refl
take_up (c ∷ t) = go (eqb c slash) (take_up t)
  where
    go : (b : Bool) → take (length (up_to_slash t)) t ≡ up_to_slash t → take (length (cond b [] (c ∷ up_to_slash t))) (c ∷ t) ≡ cond b [] (c ∷ up_to_slash t)
    go true ih = refl
    go false ih = ap (λ (l : List ℕ). c ∷ l) ih

pub drop_up : (t : List ℕ) → labels_of t ≡ labels_of (drop (length (up_to_slash t)) t)
drop_up [] = refl
drop_up (c ∷ t) = go (eqb c slash) refl (drop_up t)
  where
    go : (b : Bool) → eqb c slash ≡ b → labels_of t ≡ labels_of (drop (length (up_to_slash t)) t) → labels_of (c ∷ t) ≡ labels_of (drop (length (cond b [] (c ∷ up_to_slash t))) (c ∷ t))
    go true e ih = refl
    go false e ih = rw e ih

pub begun_up : (t : List ℕ) → Begun (drop (length (up_to_slash t)) t)
begun_up [] = λ f. absurd (f refl)
begun_up (c ∷ t) = go (eqb c slash) refl (begun_up t)
  where
    go : (b : Bool) → eqb c slash ≡ b → Begun (drop (length (up_to_slash t)) t) → Begun (drop (length (cond b [] (c ∷ up_to_slash t))) (c ∷ t))
    go true e ih f = eqb-true c slash e
    go false e ih f = ih f

-- what stands before the first `/` is of no label
pub skip_labels : (s : List ℕ) (r : ℕ) → r ≡ 0 + length (up_to_slash s) → labels_of (back s r) ≡ labels_of s
skip_labels s r h =
    let e : r ≡ length (up_to_slash s) = omega arith in
    ap labels_of (tail_part r s ∙ ap (λ (n : ℕ). drop n s) e) ∙ sym (drop_up s)

-- and a label begins where `next_slash` ends
pub begun_next : (s : List ℕ) (from r : ℕ) → r ≡ from + length (up_to_slash (drop from s)) → Begun (back s r)
begun_next s from r h = rw (tail_part r s, h, ← drop-drop (length (up_to_slash (drop from s))) from s) (begun_up (drop from s))

-- the first label ends at r
pub first_law : (s : List ℕ) (r : ℕ) → none (labels_of s) ≡ false → Begun s → r ≡ 1 + length (up_to_slash (drop 1 s)) → FirstLabel s (front s r) (back s r)
first_law [] r f b h = not_both refl f
first_law (c ∷ t) r f b h =
    let more : r ≡ suc (length (up_to_slash t)) = omega arith in
    let over : take (length (c ∷ t) - r) (drop r (c ∷ t)) ≡ drop (length (up_to_slash t)) t = tail_part r (c ∷ t) ∙ rw more in
    let less : r - 1 ≡ length (up_to_slash t) = omega arith in
    record {
      labels = rw (over, less, take_up t, ← drop_up t) (rw (eq-eqb c slash (b (λ z. absurd (omega arith)))));
      shorter = let m = length_back (c ∷ t) r in omega arith;
    }

pub no_labels : (s : List ℕ) → length s ≡ 0 → labels_of s ≡ []
no_labels s e = ap labels_of (no_items s e)

-- where no labels are left of a pattern, none may be left of a path
pub end_labels : (ps : List (List ℕ)) → none ps ≡ true → fit_labels ps ≡ none
unfolding fit
end_labels [] e = refl
end_labels (p ∷ ps) e = not_both e refl

pub one_law : (s l t : List ℕ) → FirstLabel s l t → deep l ≡ false → fit_labels (labels_of s) ≡ first (fits_label l) (fit_labels (labels_of t))
one_law s l t h e = ap fit_labels h.labels ∙ fit_one deep fits_label l (labels_of t) e

pub deep_law : (s l t : List ℕ) → FirstLabel s l t → deep l ≡ true → fit_labels (labels_of s) ≡ after_some (fit_labels (labels_of t))
deep_law s l t h e = ap fit_labels h.labels ∙ fit_wild deep fits_label l (labels_of t) e

-- where a label begins, and at the end
slash_at : (s : List ℕ) (b : ℕ) → b < length s → Begun (back s b) → get_or s b 0 ≡ slash
slash_at s b l g = subst Begun (back_step s b l) g (λ z. absurd (omega arith))

pub begun_at : (s : List ℕ) (b : ℕ) → b < length s → get_or s b 0 ≡ slash → Begun (back s b)
begun_at s b l e f = ap (λ (t : List ℕ). get_or t 0 0) (back_step s b l) ∙ e

pub begun_end : (s : List ℕ) (b : ℕ) → length s ≤ b → Begun (back s b)
begun_end s b l f = absurd (f (back_end s b l))

-- k does not hold of the labels from b on: the first of them is taken
tried_label : (k : List (List ℕ) → Bool) (s : List ℕ) (u : List (List ℕ)) (b : ℕ) → b ≤ length s → Begun (back s b) → k (labels_of (back s b)) ≡ false
    → Tried k (length s) b (labels_of (back s b)) u → Tried k (length s) (b + 1) (labels_of (back s (b + 1))) u
tried_label k s u b l g e y =
    tried_on k (length s) b (b + 1) (up_to_slash (back s (b + 1))) (labels_of (back s b)) (labels_of (back s (b + 1))) u l
    (λ m. ap labels_of (back_step s b (omega arith)) ∙ rw (eq-eqb (get_or s b 0) slash (slash_at s b (omega arith) g)))
    (λ m. ap length (no_labels (back s b) (back_end s b (omega arith)))) e y

-- where no label begins, none is taken
tried_byte : (k : List (List ℕ) → Bool) (s : List ℕ) (u : List (List ℕ)) (b : ℕ) → b < length s → (get_or s b 0 ≡ slash → ⊥)
    → Tried k (length s) b (labels_of (back s b)) u → Tried k (length s) (b + 1) (labels_of (back s (b + 1))) u
tried_byte k s u b l n y =
    let same : labels_of (back s b) ≡ labels_of (back s (b + 1)) = ap labels_of (back_step s b l) ∙ rw (ne_eqb (get_or s b 0) slash n) in
    (λ m r z. y.0 (omega arith) r (subst (λ (t : List (List ℕ)). Says (after_some k) t r) (sym same) z), λ m. absurd (omega arith))

-- one place more, of which this is known
pub tried_place : (ps : List (List ℕ)) (s : List ℕ) (u : List (List ℕ)) (b : ℕ) → b ≤ length s → OffLabels ps s b
    → Tried (fit_labels ps) (length s) b (labels_of (back s b)) u → Tried (fit_labels ps) (length s) (b + 1) (labels_of (back s (b + 1))) u
tried_place ps s u b l e y = elim (dec_le (length s) b) [ yes z ↦ tried_label (fit_labels ps) s u b l (begun_end s b z) (e (begun_end s b z)) y | no z ↦ inside (lt_of_not-le z) ]
  where
    inside : b < length s → Tried (fit_labels ps) (length s) (b + 1) (labels_of (back s (b + 1))) u
    inside m =
        ⊎_elim (λ (z : get_or s b 0 ≡ slash). tried_label (fit_labels ps) s u b l (begun_at s b m z) (e (begun_at s b m z)) y)
        (λ (z : get_or s b 0 ≡ slash → ⊥). tried_byte (fit_labels ps) s u b m z y) (same? (get_or s b 0) slash)

-- up to the next `/` no label begins
pub off_up : (ps : List (List ℕ)) (s : List ℕ) (i r : ℕ) → r ≡ i + length (up_to_slash (drop i s)) → r ≤ i + (length s - i) → (j : ℕ) → i ≤ j → j < r → OffLabels ps s j
off_up ps s i r h l j z m e = absurd (up_none (drop i s) (j - i) (omega arith) (get_or-drop i s (j - i) 0 ∙ ap (λ (n : ℕ). get_or s n 0) (omega arith) ∙ slash_at s j (omega arith) e))

-- so the next `/` is the next place at which one may begin, or the end
pub next_up : (ps : List (List ℕ)) (s : List ℕ) (from r : ℕ) → from ≤ length s → (r ≡ from + length (up_to_slash (drop from s))) × (r ≤ from + (length s - from))
    → (Skipped (OffLabels ps s) (length s) from r × (r ≤ length s)) × Begun (back s r)
next_up ps s from r l h = ((skip_to (OffLabels ps s) (length s) from from r (omega arith) (omega arith) (off_up ps s from r h.0 h.1) (skip_none (OffLabels ps s) (length s) from (omega (arith, l))), omega (arith, l, h.1)), begun_next s from r h.0)

pub first_cut : (f : List ℕ → Bool) (k : List (List ℕ) → Bool) (s l t : List ℕ) (r : Trial) → FirstLabel s l t → f l ≡ true → Says k (labels_of t) r → Says (first f k) (labels_of s) r
first_cut f k s l t r h e y = subst (λ (ls : List (List ℕ)). Says (first f k) ls r) (sym h.labels) (first_on k f l (labels_of t) r e y)

-- the first label of a path fits that of a pattern, which is no `**`: what is said of the others is so of all
pub rest_says : (p l t s a b : List ℕ) (r : Trial) → FirstLabel p l t → deep l ≡ false → FirstLabel s a b → fits_label l a ≡ true
    → Says (fit_labels (labels_of t)) (labels_of b) r → Says (fit_labels (labels_of p)) (labels_of s) r
rest_says p l t s a b r h d g e y = subst (λ (k : List (List ℕ) → Bool). Says k (labels_of s) r) (sym (one_law p l t h d)) (first_cut (fits_label l) (fit_labels (labels_of t)) s a b r g e y)

-- there is no first label
pub none_first : (f : List ℕ → Bool) (k : List (List ℕ) → Bool) (ls : List (List ℕ)) → none ls ≡ true → after_some (first f k) ls ≡ false
none_first f k [] e = refl
none_first f k (l ∷ ls) e = not_both e refl

pub first_not : (f : List ℕ → Bool) (k : List (List ℕ) → Bool) (s l t : List ℕ) → FirstLabel s l t → f l ≡ false → first f k (labels_of s) ≡ false
first_not f k s l t h e = subst (λ (ls : List (List ℕ)). first f k ls ≡ false) (sym h.labels) (first_off k f l (labels_of t) e)

-- labels that begin with different bytes, the pattern's with no `*`
pub unlike_fits : (c d : ℕ) (p s : List ℕ) → (c ≡ star → ⊥) → (c ≡ d → ⊥) → fits_label (up_to_slash (c ∷ p)) (up_to_slash (d ∷ s)) ≡ false
unlike_fits c d p s w n = go (eqb c slash) refl (eqb d slash) refl
  where
    go : (a : Bool) → eqb c slash ≡ a → (b : Bool) → eqb d slash ≡ b → fits_label (cond a [] (c ∷ up_to_slash p)) (cond b [] (d ∷ up_to_slash s)) ≡ false
    go true e true g = absurd (n (eqb-true c slash e ∙ sym (eqb-true d slash g)))
    go true e false g = rw (end_law [] refl)
    go false e true g = rw (byte_law (c ∷ up_to_slash p) (λ z. absurd (omega arith)) w)
    go false e false g = rw (byte_law (c ∷ up_to_slash p) (λ z. absurd (omega arith)) w, ne_eqb c d n)

pub plain_not_deep : (c : ℕ) (p : List ℕ) → (c ≡ star → ⊥) → deep (up_to_slash (c ∷ p)) ≡ false
plain_not_deep c p w = go (eqb c slash)
  where
    go : (a : Bool) → deep (cond a [] (c ∷ up_to_slash p)) ≡ false
    go true = refl
    go false = and_false (eqb (length (c ∷ up_to_slash p)) 2) (eqb c star && eqb (get_or (c ∷ up_to_slash p) 1 0) star) (rw (ne_eqb c star w))

pub unlike_law : (p s : List ℕ) → 1 < length p → 1 < length s → Begun p → Begun s → (get_or p 1 0 ≡ star → ⊥) → (get_or p 1 0 ≡ get_or s 1 0 → ⊥) → fit_labels (labels_of p) (labels_of s) ≡ false
unlike_law [] s l m f g w n = absurd (omega arith)
unlike_law (x ∷ []) s l m f g w n = absurd (omega arith)
unlike_law (x ∷ c ∷ p) [] l m f g w n = absurd (omega arith)
unlike_law (x ∷ c ∷ p) (y ∷ []) l m f g w n = absurd (omega arith)
unlike_law (x ∷ c ∷ p) (y ∷ d ∷ s) l m f g w n =
    rw (eq-eqb x slash (f (λ z. absurd (omega arith))), eq-eqb y slash (g (λ z. absurd (omega arith))), fit_one deep fits_label (up_to_slash (c ∷ p)) (labels_of (c ∷ p)) (plain_not_deep c p w))
    (first_off (fit_labels (labels_of (c ∷ p))) (fits_label (up_to_slash (c ∷ p))) (up_to_slash (d ∷ s)) (labels_of (d ∷ s)) (unlike_fits c d p s w n))

-- a label that begins with a byte of its own does not fit the empty label, nor is there any other
short_law : (p t : List ℕ) → 1 < length p → Begun p → (get_or p 1 0 ≡ star → ⊥) → (get_or p 1 0 ≡ slash → ⊥) → length t ≤ 1 → Begun t → fit_labels (labels_of p) (labels_of t) ≡ false
short_law [] t l f w v m g = absurd (omega arith)
short_law (x ∷ []) t l f w v m g = absurd (omega arith)
short_law (x ∷ c ∷ p) [] l f w v m g = rw (eq-eqb x slash (f (λ z. absurd (omega arith))), fit_one deep fits_label (up_to_slash (c ∷ p)) (labels_of (c ∷ p)) (plain_not_deep c p w))
short_law (x ∷ c ∷ p) (y ∷ []) l f w v m g =
    rw (eq-eqb x slash (f (λ z. absurd (omega arith))), eq-eqb y slash (g (λ z. absurd (omega arith))), fit_one deep fits_label (up_to_slash (c ∷ p)) (labels_of (c ∷ p)) (plain_not_deep c p w))
    (first_off (fit_labels (labels_of (c ∷ p))) (fits_label (up_to_slash (c ∷ p))) [] [] (rw (ne_eqb c slash v, byte_law (c ∷ up_to_slash p) (λ z. absurd (omega arith)) w)))
short_law (x ∷ c ∷ p) (y ∷ d ∷ s) l f w v m g = absurd (omega arith)

-- at i of s a label begins, with the byte with which the first of p begins
abbrev pub begins_at : List ℕ → List ℕ → ℕ → Bool
begins_at p s i = eqb (get_or s (i + 1) 0) (get_or p 1 0) && eqb (get_or s i 0) slash

-- the first label of a pattern begins with a byte of its own
module _ (p s : List ℕ) (l : 1 < length p) (f : Begun p) (w : get_or p 1 0 ≡ star → ⊥) where
  -- and the label at i with another
  off_unlike : (i : ℕ) → i + 1 < length s → begins_at p s i ≡ false → OffLabels (labels_of p) s i
  off_unlike i m n g =
      let k = length_back s i in
      let next : get_or (back s i) 1 0 ≡ get_or s (i + 1) 0 = ap (λ (t : List ℕ). get_or t 1 0) (back_step s i (omega arith) ∙ ap (λ (t : List ℕ). get_or s i 0 ∷ t) (back_step s (i + 1) m)) in
      unlike_law p (back s i) l (omega arith) f g w (λ z. not_both (and-true _ _ (eq-eqb _ _ (sym (z ∙ next))) (eq-eqb _ _ (slash_at s i (omega arith) g))) n)
    where
      and-true : (a b : Bool) → a ≡ true → b ≡ true → a && b ≡ true
      and-true a b x y = rw (x, y)

  -- and what is left has one byte, or none
  pub off_last : (get_or p 1 0 ≡ slash → ⊥) → (i : ℕ) → length s ≤ i + 1 → OffLabels (labels_of p) s i
  off_last v i m = short_law p (back s i) l f w v (omega (arith, length_back s i))

  -- the first place at which a label begins with it; or there is none
  pub next_own : (get_or p 1 0 ≡ slash → ⊥) → (from e : ℕ) → from ≤ length s → e ≡ length s - 1 → (o : Option ℕ)
      → MatchOption o ((k : ℕ) → from ≤ k → k < e → begins_at p s k ≡ false) (λ i. (from ≤ i) × (i < e) × (begins_at p s i ≡ true) × ((k : ℕ) → from ≤ k → k < i → begins_at p s k ≡ false))
      → Next (OffLabels (labels_of p) s) (length s) from o × IfSome o (λ i. Begun (back s i))
  next_own v from e m h (Some i) g = (
    (record { low = g.0; high = omega (arith, h, g.1); each = λ k a b. off_unlike k (omega (arith, h, g.1, b)) (g.3 k a b) }, omega (arith, h, g.1)),
    begun_at s i (omega (arith, h, g.1)) (eqb-true _ _ (and_right (eqb (get_or s (i + 1) 0) (get_or p 1 0)) (eqb (get_or s i 0) slash) g.2)),
  )
  next_own v from e m h None g = (
    skip_to (OffLabels (labels_of p) s) (length s) from from (length s + 1) (omega (arith, m)) (omega arith)
        (λ j a b. elim (dec_le e j) [ yes z ↦ off_last v j (omega (arith, h, z)) | no z ↦ off_unlike j (omega (arith, h, lt_of_not-le z)) (g j a (lt_of_not-le z)) ])
        (skip_none (OffLabels (labels_of p) s) (length s) from (omega (arith, m))),
    tt,
  )

-- a pattern is one label, l, and not `**`
pub single_law : (p l t : List ℕ) → FirstLabel p l t → none (labels_of t) ≡ true → deep l ≡ false → fit_labels (labels_of p) ≡ first (fits_label l) none
single_law p l t h e d = one_law p l t h d ∙ ap (first (fits_label l)) (end_labels (labels_of t) e)

-- a list without `/` stands before its first `/`, and has no label
no_slash : (t : List ℕ) → length (up_to_slash t) ≡ length t → (up_to_slash t ≡ t) × (labels_of t ≡ [])
no_slash t e = (sym (take_up t) ∙ take_all (length (up_to_slash t)) t (omega arith), drop_up t ∙ ap (λ (i : ℕ). labels_of (drop i t)) e ∙ ap labels_of (drop-length t))

pub no_label : (s : List ℕ) → 0 + length (up_to_slash s) ≡ length s → labels_of s ≡ []
no_label s h = (no_slash s (omega arith)).1

-- of one label behind `**`, the last label decides: l, where it stands alone from i on
module _ (f : List ℕ → Bool) where
  abbrev Last : List ℕ → List (List ℕ) → Type 0
  Last l ls = (none ls ≡ false) × (after_some (first f none) ls ≡ f l)

  last_of : (s : List ℕ) (i : ℕ) (l : List ℕ) → labels_of (drop i s) ≡ l ∷ [] → Last l (labels_of s)
  last_of s zero l e = rw e (refl, last_only f l)
  last_of [] (suc i) l e = not_both (ap none (sym e)) refl
  last_of (c ∷ s) (suc i) l e = go (eqb c slash) (last_of s i l e)
    where
      go : (b : Bool) → Last l (labels_of s) → Last l (cond b (up_to_slash s ∷ labels_of s) (labels_of s))
      go true h = (refl, last_later f (up_to_slash s) (labels_of s) h.0 ∙ h.1)
      go false h = h

  pub last_law : (s : List ℕ) (a : ℕ) → (a ≡ 0 → ⊥) → a + length (up_to_slash (drop a s)) ≡ length s → get_or s (a - 1) 0 ≡ slash → after_some (first f none) (labels_of s) ≡ f (back s a)
  last_law s a n h e =
      let size = length-drop a s in
      let next : a - 1 + 1 ≡ a = omega arith in
      let behind = no_slash (drop a s) (omega arith) in
      let cut : drop (a - 1) s ≡ get_or s (a - 1) 0 ∷ drop a s = step s (a - 1) (omega arith) ∙ ap (λ (i : ℕ). get_or s (a - 1) 0 ∷ drop i s) next in
      (last_of s (a - 1) (back s a) (rw (cut, eq-eqb (get_or s (a - 1) 0) slash e, behind.0, behind.1, tail_part a s))).1
