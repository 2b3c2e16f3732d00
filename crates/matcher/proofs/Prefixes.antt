-- Bytes that begin a path: what `begins_path` says is so exactly where some path goes on from them. One more byte x makes a path of them.
-- Assumes nothing.
use mathlib.Core.Path.{◌≡◌, refl, sym, ap, ap₂, ◌∙◌}
use mathlib.Core.List.{List, [], ◌∷◌, ◌++◌}
use mathlib.Core.Bool.{Bool, true, false, not, cond, ◌&&◌}
use mathlib.Core.Logic.{◌⊎◌, inl, inr, ⊎_elim}
use Prim.Native.Nat.{ℕ, zero, suc, ◌+◌, ◌-◌, ◌<◌}
use native.Mathlib.Omega.{arith}
use lib.ListN.{length, take, get_or, length-append}
use lib.Seq.{take-append_seam, get_or-append_seam}
use lib.Dec.{eqb}
use borrow.Author.Tests.{eqb-true, ne_eqb}
use Rattle.buffer.specs.Lists.{all}
use Rattle.matcher.specs.Bytes.{slash, end_byte, label_byte}
use Rattle.matcher.specs.Form.{apart, formed_path}
use Rattle.matcher.specs.Reach.{begins_path}
use Rattle.buffer.proofs.Tests.{not_both, and_left, and_right, and_both}
use Rattle.buffer.proofs.Lists.{tested_left}
use Rattle.glob.proofs.Parts.{last_place}
use Rattle.matcher.proofs.Apart.{may_stand, last_byte, formed_bytes, ends_label}
use Rattle.matcher.proofs.Goes.{filler, x_byte}
use Rattle.matcher.proofs.Joined.{byte_not}

-- what `apart` says of a list it says of its first bytes
apart_prefix : (s t : List ℕ) → apart slash (s ++ t) ≡ true → apart slash s ≡ true
apart_prefix [] t e = refl
apart_prefix (c ∷ []) t e = and_both (go (eqb c slash) (and_left (may_stand slash c (get_or t 0 0)) (apart slash t) e)) refl
  where
    go : (b : Bool) → cond b (not (eqb (get_or t 0 0) slash)) (label_byte c) ≡ true → cond b true (label_byte c) ≡ true
    go true h = refl
    go false h = h
apart_prefix (c ∷ d ∷ s) t e =
    and_both (and_left (may_stand slash c d) (apart slash ((d ∷ s) ++ t)) e) (apart_prefix (d ∷ s) t (and_right (may_stand slash c d) (apart slash ((d ∷ s) ++ t)) e))

apart_snoc : (s : List ℕ) → apart slash s ≡ true → apart slash (s ++ (filler ∷ [])) ≡ true
apart_snoc [] e = and_both x_byte refl
apart_snoc (c ∷ []) e = and_both (go (eqb c slash) (and_left (may_stand slash c 0) true e)) (and_both x_byte refl)
  where
    go : (b : Bool) → cond b true (label_byte c) ≡ true → cond b true (label_byte c) ≡ true
    go b h = h
apart_snoc (c ∷ d ∷ s) e =
    and_both (and_left (may_stand slash c d) (apart slash (d ∷ s)) e) (apart_snoc (d ∷ s) (and_right (may_stand slash c d) (apart slash (d ∷ s)) e))

-- a path has no end byte in it
abbrev no_end : ℕ → Bool
no_end c = not (eqb c end_byte)

apart_no_end : (s : List ℕ) → apart slash s ≡ true → all no_end s ≡ true
apart_no_end [] e = refl
apart_no_end (c ∷ s) e = and_both (go (eqb c slash) refl (and_left (may_stand slash c (get_or s 0 0)) (apart slash s) e)) (apart_no_end s (and_right (may_stand slash c (get_or s 0 0)) (apart slash s) e))
  where
    go : (b : Bool) → eqb c slash ≡ b → cond b (not (eqb (get_or s 0 0) slash)) (label_byte c) ≡ true → no_end c ≡ true
    go true q h = rw (eqb-true c slash q)
    go false q h = rw (ne_eqb c end_byte (byte_not c h).1)

formed_apart : (s : List ℕ) → formed_path s ≡ true → apart slash s ≡ true
formed_apart s e =
    and_left (apart slash s) (not (eqb (last_byte s) slash))
    (and_right (eqb (get_or s 0 0) slash) (apart slash s && not (eqb (last_byte s) slash)) (sym (formed_bytes s) ∙ e))

formed_first : (s : List ℕ) → formed_path s ≡ true → eqb (get_or s 0 0) slash ≡ true
formed_first s e = and_left (eqb (get_or s 0 0) slash) (apart slash s && not (eqb (last_byte s) slash)) (sym (formed_bytes s) ∙ e)

-- the first bytes of a path begin a path
pub begins_of : (known n path : List ℕ) → known ++ n ≡ path → formed_path path ≡ true → begins_path known ≡ true
begins_of [] n path g e = refl
begins_of (c ∷ k) n path g e =
    let e' : formed_path ((c ∷ k) ++ n) ≡ true = ap formed_path g ∙ e in
    and_both (formed_first ((c ∷ k) ++ n) e') (apart_prefix (c ∷ k) n (formed_apart ((c ∷ k) ++ n) e'))

-- a path and one byte more
shorter : (t : List ℕ) (x : ℕ) → length (t ++ (x ∷ [])) - 1 ≡ length t
shorter t x = let l : length (t ++ (x ∷ [])) ≡ length t + 1 = length-append t (x ∷ []) in omega arith

pub last_of : (t : List ℕ) (x : ℕ) → last_byte (t ++ (x ∷ [])) ≡ x
last_of t x = ap (λ (n : ℕ). get_or (t ++ (x ∷ [])) n 0) (shorter t x) ∙ get_or-append_seam t x [] 0

pub before_last : (t : List ℕ) (x : ℕ) → take (length (t ++ (x ∷ [])) - 1) (t ++ (x ∷ [])) ≡ t
before_last t x = ap (λ (n : ℕ). take n (t ++ (x ∷ []))) (shorter t x) ∙ take-append_seam t (x ∷ [])

-- a path that goes on from bytes
pub record Opened (known : List ℕ) : Type 0 where
  pub path : List ℕ
  pub is_path : formed_path path ≡ true
  pub more : List ℕ
  pub goes_on : known ++ more ≡ path

pub opened : (known : List ℕ) → begins_path known ≡ true → Opened known
opened [] e = record { path = slash ∷ filler ∷ []; is_path = and_both (and_both x_byte refl) refl; more = slash ∷ filler ∷ []; goes_on = refl }
opened (c ∷ k) e = record {
  path = (c ∷ k) ++ (filler ∷ []);
  is_path =
      ends_label ((c ∷ k) ++ (filler ∷ [])) (λ z. absurd (omega arith)) (λ z. absurd (x_not (sym (last_of (c ∷ k) filler) ∙ z)))
      ∙ and_both (and_left (eqb c slash) (apart slash (c ∷ k)) e) (apart_snoc (c ∷ k) (and_right (eqb c slash) (apart slash (c ∷ k)) e));
  more = filler ∷ [];
  goes_on = refl;
}
  where
    x_not : filler ≡ slash → ⊥
    x_not z = omega arith

-- the first bytes of a path and its end byte are all of them, or the first bytes of the path
ends : (s m t : List ℕ) → s ++ m ≡ t ++ (end_byte ∷ []) → (s ≡ t ++ (end_byte ∷ [])) ⊎ ((n : List ℕ) × (s ++ n ≡ t))
ends [] m t e = inr (t, refl)
ends (x ∷ s) m [] e = inl (go s (cc) (cc))
  where
    go : (u : List ℕ) → x ≡ end_byte → u ++ m ≡ [] → x ∷ u ≡ end_byte ∷ []
    go [] a b = ap (λ (y : ℕ). y ∷ []) a
    go (y ∷ u) a b = cc
ends (x ∷ s) m (y ∷ t) e =
    let h : x ≡ y = cc in
    let f : s ++ m ≡ t ++ (end_byte ∷ []) = cc in
    ⊎_elim (λ z. inl (ap₂ ◌∷◌ h z)) (λ z. inr (z.0, ap₂ ◌∷◌ h z.1)) (ends s m t f)

all_at : (f : ℕ → Bool) (s : List ℕ) (i : ℕ) → i < length s → all f s ≡ true → f (get_or s i 0) ≡ true
all_at f [] i l e = absurd (omega arith)
all_at f (x ∷ s) zero l e = and_left (f x) (all f s) e
all_at f (x ∷ s) (suc i) l e = all_at f s i (omega arith) (and_right (f x) (all f s) e)

module _ (known path more : List ℕ) (is_path : formed_path path ≡ true) (goes_on : known ++ more ≡ path ++ (end_byte ∷ [])) where
  -- where the last byte known is the end byte, the path is known whole
  pub closed_path : (length known ≡ 0 → ⊥) → last_byte known ≡ end_byte → known ≡ path ++ (end_byte ∷ [])
  closed_path f e = ⊎_elim (λ z. z)
      (λ z. not_both (all_at no_end known (length known - 1) (last_place (length known) f) (tested_left no_end known z.0 (rw z.1 (apart_no_end path (formed_apart path is_path))))) (rw e))
      (ends known more path goes_on)

  -- elsewhere it goes on
  pub open_path : (known ≡ path ++ (end_byte ∷ []) → ⊥) → (n : List ℕ) × (known ++ n ≡ path)
  open_path o = ⊎_elim (λ z. absurd (o z)) (λ z. z) (ends known more path goes_on)
