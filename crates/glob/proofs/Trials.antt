-- The laws of `fit`, over any pattern and any items: how a trial of the rest becomes a trial of the whole.
-- Assumes nothing.
use mathlib.Core.Path.{◌≡◌, refl, sym, ap, subst, ◌∙◌}
use mathlib.Core.List.{List, [], ◌∷◌}
use mathlib.Core.Bool.{Bool, true, false, cond, ◌&&◌, ◌||◌}
use mathlib.Core.Logic.{⊎_elim}
use Prim.Native.Nat.{ℕ, ◌+◌, ◌-◌, ◌<◌, ◌≤◌}
use native.Mathlib.Omega.{arith}
use lib.ListN.{length, get_or}
use lib.Dec.{eqb}
use lib.Seq.{get_or-drop}
use borrow.Author.Tests.{eq-eqb, ne_eqb}
use Rattle.std.proofs.Common.{Option, Some, None}
use Rattle.std.proofs.lemmas.Bool.{cases_lt}
use Rattle.buffer.specs.Lists.{none}
use Rattle.glob.specs.Bytes.{star}
use Rattle.glob.specs.Fit.{after_some, first, fit, fits_label}
use Rattle.glob.specs.Inner.{Says, is_fit, Alike, Skipped, Next, OffLabel}
use Rattle.glob.proofs.Skips.{through}
use Rattle.glob.specs.declared.fit.Trial.{Trial}
use Rattle.glob.specs.declared.fit.Trial.TheVariants.{Fits, Fails, Never}
use Rattle.buffer.proofs.Tests.{and_false, or_false, or_left, or_left_false, or_right_false}
use Rattle.glob.proofs.Parts.{tail_part, rest, split, back, back_step, back_back, back_end, no_items}

-- where k never holds, it does not hold now
never_now : {B : Type 0} (k : List B → Bool) (s : List B) → after_some k s ≡ false → k s ≡ false
never_now k [] e = e
never_now k (x ∷ s) e = or_left_false (k (x ∷ s)) (after_some k s) e

module _ {B : Type 0} (k : List B → Bool) where
  pub now_some : (s : List B) → k s ≡ true → after_some k s ≡ true
  now_some [] e = e
  now_some (x ∷ s) e = or_left (k (x ∷ s)) (after_some k s) e

  -- what a trial says, as a Bool
  pub says_is : (s : List B) (r : Trial) → Says k s r → is_fit r ≡ k s
  says_is s Fits e = sym e
  says_is s Fails e = sym e
  says_is s Never e = sym (never_now k s e)

  -- what never holds after some are taken never holds after some and some are taken
  pub never_twice : (s : List B) → after_some k s ≡ false → after_some (after_some k) s ≡ false
  never_twice [] e = e
  never_twice (x ∷ s) e = or_false (after_some k (x ∷ s)) (after_some (after_some k) s) e (never_twice s (or_right_false (k (x ∷ s)) (after_some k s) e))

  -- k does not hold of all of s, and an answer is known for a wild element on the rest of s: it is the answer for all of s
  pub wild_on : (x : B) (s : List B) (r : Trial) → k (x ∷ s) ≡ false → Says (after_some k) s r → Says (after_some k) (x ∷ s) r
  wild_on x s Fits e h = rw (e, h)
  wild_on x s Fails e h = rw (e, h)
  wild_on x s Never e h = or_false (k (x ∷ s) || after_some k s) (after_some (after_some k) s) (or_false (k (x ∷ s)) (after_some k s) e (never_now (after_some k) s h)) h

  -- an answer for what is left of s, t, is the answer for all of s
  abbrev pub Passes : List B → List B → Type 0
  Passes t s = (r : Trial) → Says (after_some k) t r → Says (after_some k) s r

  -- k does not hold of x ∷ t, so x is taken
  pass_on : (x : B) (t s : List B) → k (x ∷ t) ≡ false → Passes (x ∷ t) s → Passes t s
  pass_on x t s e h = λ r y. h r (wild_on x t r e y)

  -- at the end there is nothing more to take
  end_some : (t : List B) → length t ≡ 0 → k t ≡ false → after_some k t ≡ false
  end_some [] l e = e
  end_some (x ∷ t) l e = let z : ◌≡◌ {A = ℕ} 0 1 = cc in absurd (omega arith)

  -- a wild element has taken what stands before place i of n, t is left, and k failed before: an answer for t is the answer for s, and
  -- behind n there is none
  abbrev pub Tried : ℕ → ℕ → List B → List B → Type 0
  Tried n i t s = (i ≤ n → Passes t s) × (n < i → after_some k s ≡ false)

  pub tried_none : (n : ℕ) (t s : List B) → t ≡ s → Tried n 0 t s
  tried_none n t s e = (λ l r y. subst (λ (u : List B). Says (after_some k) u r) e y, λ l. absurd (omega arith))

  -- k fails of t too: what is left is t without its first element, at place j
  pub tried_on : (n i j : ℕ) (x : B) (t u s : List B) → i ≤ n → (j ≤ n → t ≡ x ∷ u) → (n < j → length t ≡ 0) → k t ≡ false → Tried n i t s → Tried n j u s
  tried_on n i j x t u s l h g e y =
      (λ m. pass_on x u s (subst (λ (v : List B). k v ≡ false) (h m) e) (subst (λ (v : List B). Passes v s) (h m) (y.0 l)), λ m. y.0 l Fails (end_some t (g m) e))

  module _ (f : B → Bool) where
    -- where k never holds of the rest, f and k never hold of an element and a rest
    pub never_first : (s : List B) → after_some k s ≡ false → after_some (first f k) s ≡ false
    never_first [] e = refl
    never_first (x ∷ s) e = or_false (f x && k s) (after_some (first f k) s)
        (and_false (f x) (k s) (never_now k s (or_right_false (k (x ∷ s)) (after_some k s) e)))
        (never_first s (or_right_false (k (x ∷ s)) (after_some k s) e))

    -- an element passes f: the answer for the rest is the answer
    pub first_on : (x : B) (s : List B) (r : Trial) → f x ≡ true → Says k s r → Says (first f k) (x ∷ s) r
    first_on x s Fits e h = rw (e, h)
    first_on x s Fails e h = rw (e, h)
    first_on x s Never e h = or_false (f x && k s) (after_some (first f k) s) (and_false (f x) (k s) (never_now k s h)) (never_first s h)

    pub first_off : (x : B) (s : List B) → f x ≡ false → first f k (x ∷ s) ≡ false
    first_off x s e = rw e

-- a last wild element takes all that is left
pub some_none : {B : Type 0} (s : List B) → after_some none s ≡ true
some_none [] = refl
some_none (x ∷ s) = some_none s

-- one element passes f and no more follow, once some are taken: only the last element can be it
module _ {B : Type 0} (f : B → Bool) (x : B) where
  pub last_only : after_some (first f none) (x ∷ []) ≡ f x
  last_only = go (f x)
    where
      go : (b : Bool) → (b && true) || false ≡ b
      go true = refl
      go false = refl

  pub last_later : (s : List B) → none s ≡ false → after_some (first f none) (x ∷ s) ≡ after_some (first f none) s
  last_later s e = rw (and_false (f x) (none s) e)

-- what `fit` is at a wild element and at another
pub fit_wild : {A B : Type 0} (wild : A → Bool) (one : A → B → Bool) (a : A) (p : List A) → wild a ≡ true → fit wild one (a ∷ p) ≡ after_some (fit wild one p)
unfolding fit
fit_wild wild one a p e = ap (λ (b : Bool). λ s. cond b (after_some (fit wild one p) s) (first (one a) (fit wild one p) s)) e

pub fit_one : {A B : Type 0} (wild : A → Bool) (one : A → B → Bool) (a : A) (p : List A) → wild a ≡ false → fit wild one (a ∷ p) ≡ first (one a) (fit wild one p)
unfolding fit
fit_one wild one a p e = ap (λ (b : Bool). λ s. cond b (after_some (fit wild one p) s) (first (one a) (fit wild one p) s)) e

pub star_law : (p : List ℕ) → (length p ≡ 0 → ⊥) → get_or p 0 0 ≡ star → fits_label p ≡ after_some (fits_label (rest p))
star_law p f e = ap fits_label (split p f) ∙ fit_wild (eqb star) eqb (get_or p 0 0) (rest p) (eq-eqb star (get_or p 0 0) (sym e))

pub byte_law : (p : List ℕ) → (length p ≡ 0 → ⊥) → (get_or p 0 0 ≡ star → ⊥) → fits_label p ≡ first (eqb (get_or p 0 0)) (fits_label (rest p))
byte_law p f e = ap fits_label (split p f) ∙ fit_one (eqb star) eqb (get_or p 0 0) (rest p) (ne_eqb star (get_or p 0 0) (λ h. e (sym h)))

pub end_law : (p : List ℕ) → length p ≡ 0 → fits_label p ≡ none
unfolding fit
end_law p e = ap fits_label (no_items p e)

-- p, a label of a pattern that begins with no `*`, begins with another byte than what is left of s, or nothing is left
module _ (p s : List ℕ) (f : length p ≡ 0 → ⊥) (w : get_or p 0 0 ≡ star → ⊥) (i : ℕ) where
  pub off_here : i < length s → (get_or s i 0 ≡ get_or p 0 0 → ⊥) → OffLabel p s i
  off_here l e = rw (byte_law p f w, back_step s i l) (first_off (fits_label (rest p)) (eqb (get_or p 0 0)) (get_or s i 0) (back s (i + 1)) (ne_eqb _ _ (λ z. e (sym z))))

  pub off_end : length s ≤ i → OffLabel p s i
  off_end l = rw (byte_law p f w, no_items (back s i) (back_end s i l))

-- what is left at i does not fit: `*` takes one byte more
pub tried_step : (p s u : List ℕ) (i : ℕ) → i ≤ length s → OffLabel p s i → Tried (fits_label p) (length s) i (back s i) u → Tried (fits_label p) (length s) (i + 1) (back s (i + 1)) u
tried_step p s u i l e y =
    tried_on (fits_label p) (length s) i (i + 1) (get_or s i 0) (back s i) (back s (i + 1)) u l (λ m. back_step s i (omega arith)) (λ m. back_end s i (omega arith)) e y

-- the next byte of both is the same, and no `*`
pub alike_on : (p s : List ℕ) (i : ℕ) → i < length p → i < length s → (get_or p i 0 ≡ star → ⊥) → get_or p i 0 ≡ get_or s i 0 → Alike p s i → Alike p s (i + 1)
alike_on p s i l m n e a =
    let k = fits_label (back p (i + 1)) in
    let f = eqb (get_or p i 0) in
    let whole : fits_label (back p i) ≡ first f k = ap fits_label (back_step p i l) ∙ fit_one (eqb star) eqb (get_or p i 0) (back p (i + 1)) (ne_eqb star (get_or p i 0) (λ h. n (sym h))) in
    record {
      in_pattern = omega (arith, l);
      in_label = omega (arith, m);
      passes = λ t h. a.passes t
          (subst (λ (g : List ℕ → Bool). Says g (back s i) t) (sym whole)
          (subst (λ (u : List ℕ). Says (first f k) u t) (sym (back_step s i m)) (first_on k f (get_or s i 0) (back s (i + 1)) t (eq-eqb _ _ e) h)));
    }

-- the first byte of both is the same, no `*`, and what stands behind begins alike with n bytes
pub alike_first : (p s : List ℕ) (n : ℕ) (r : Trial) → (length p ≡ 0 → ⊥) → (get_or p 0 0 ≡ star → ⊥) → (length s ≡ 0 → ⊥) → get_or p 0 0 ≡ get_or s 0 0 → Alike (rest p) (rest s) n
    → Says (fits_label (back p (1 + n))) (back s (1 + n)) r → Says (fits_label p) s r
alike_first p s n r f w g e a h =
    let k = fits_label (rest p) in
    let behind = subst (λ (q : List ℕ). Says (fits_label q) (back (rest s) n) r) (sym (back_back p 1 n)) (subst (λ (l : List ℕ). Says (fits_label (back p (1 + n))) l r) (sym (back_back s 1 n)) h) in
    subst (λ (q : List ℕ → Bool). Says q s r) (sym (byte_law p f w))
    (subst (λ (l : List ℕ). Says (first (eqb (get_or p 0 0)) k) l r) (sym (split s g)) (first_on k (eqb (get_or p 0 0)) (get_or s 0 0) (rest s) r (eq-eqb _ _ e) (a.passes r behind)))

-- the bytes passed over are others than that with which p, a label of a pattern, begins
pub passed : (p s : List ℕ) → (length p ≡ 0 → ⊥) → (get_or p 0 0 ≡ star → ⊥) → (from r : ℕ) → from ≤ r → r ≤ length s + 1 → ((j : ℕ) → j < r - from → from + j < length s → get_or (back s from) j 0 ≡ get_or p 0 0 → ⊥)
    → Skipped (OffLabel p s) (length s) from r
passed p s f w from r l h g = record { low = l; high = h; each = λ i a b. ⊎_elim (λ (x : i < length s). off_here p s f w i x (other i a b x)) (λ (x : length s ≤ i). off_end p s f w i x) (cases_lt i (length s)) }
  where
    other : (i : ℕ) → from ≤ i → i < r → i < length s → get_or s i 0 ≡ get_or p 0 0 → ⊥
    other i a b x z =
        let k : from + (i - from) ≡ i = omega arith in
        let at : get_or (back s from) (i - from) 0 ≡ get_or s i 0 = ap (λ (t : List ℕ). get_or t (i - from) 0) (tail_part from s) ∙ get_or-drop from s (i - from) 0 ∙ ap (λ (j : ℕ). get_or s j 0) k in
        g (i - from) (omega (arith, a, b)) (omega (arith, k, x)) (at ∙ z)

-- a wild element has taken what stands before the next place at which k may hold, and t is left there; or k holds nowhere
module _ {B : Type 0} (k : List B → Bool) where
  abbrev pub Trying : ℕ → (ℕ → List B) → List B → Option ℕ → Type 0
  Trying n t s (Some i) = (i ≤ n) × Passes k (t i) s
  Trying n t s None = after_some k s ≡ false

  pub trying : (Off : ℕ → Type 0) (n from : ℕ) (t : ℕ → List B) (s : List B) (o : Option ℕ) → Next Off n from o → ((i : ℕ) → i ≤ n → Off i → Tried k n i (t i) s → Tried k n (i + 1) (t (i + 1)) s) → Tried k n from (t from) s → Trying n t s o
  trying Off n from t s (Some r) a f y = (a.1, (through Off n from (λ i. Tried k n i (t i) s) f r a.0 y).0 a.1)
  trying Off n from t s None a f y = (through Off n from (λ i. Tried k n i (t i) s) f (n + 1) a y).1 (omega arith)

  -- at the next place k holds, or never holds: so it is of the whole
  pub trying_fits : (n i : ℕ) (t : ℕ → List B) (s : List B) (o : Option ℕ) → o ≡ Some i → Trying n t s o → Says k (t i) Fits → Says (after_some k) s Fits
  trying_fits n i t s o e a h = (subst (Trying n t s) e a).1 Fits (now_some k (t i) h)

  pub trying_never : (n i : ℕ) (t : ℕ → List B) (s : List B) (o : Option ℕ) → o ≡ Some i → Trying n t s o → Says k (t i) Never → Says (after_some k) s Never
  trying_never n i t s o e a h = (subst (Trying n t s) e a).1 Never (never_twice k (t i) h)

  -- there k does not hold: on to the place behind it
  pub trying_on : (n i : ℕ) (t : ℕ → List B) (s : List B) (o : Option ℕ) → o ≡ Some i → Trying n t s o → Tried k n i (t i) s
  trying_on n i t s o e a = let z = subst (Trying n t s) e a in (λ l. z.1, λ l. absurd (omega (arith, z.0)))

  pub trying_none : (n : ℕ) (t : ℕ → List B) (s : List B) (o : Option ℕ) → o ≡ None → Trying n t s o → Says (after_some k) s Never
  trying_none n t s o e a = never_twice k s (subst (Trying n t s) e a)

-- so many places are left
abbrev pub ahead : ℕ → Option ℕ → ℕ
ahead n (Some i) = n + 1 - i
ahead n None = 0
