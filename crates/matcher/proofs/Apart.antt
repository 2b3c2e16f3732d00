-- The laws of `apart`: one step of a walk, and what it says of a path. Assumes nothing.
use mathlib.Core.Path.{◌≡◌, refl, sym, ap, ap₂, ◌∙◌}
use mathlib.Core.List.{List, [], ◌∷◌}
use mathlib.Core.Bool.{Bool, true, false, not, cond, ◌&&◌}
use Prim.Native.Nat.{ℕ, suc, ◌+◌, ◌-◌, ◌<◌}
use native.Mathlib.Nat.{add-zero}
use native.Mathlib.Omega.{arith}
use lib.ListN.{length, drop, get_or}
use lib.Seq.{get_or-drop}
use lib.Dec.{eqb}
use borrow.Author.Tests.{eq-eqb, ne_eqb}
use Rattle.buffer.specs.Lists.{none, all}
use Rattle.matcher.specs.Bytes.{slash, label_byte, LabelAt}
use Rattle.matcher.specs.Labels.{up_to_slash, labels_of}
use Rattle.matcher.specs.Form.{apart, path_label, formed_path}
use Rattle.matcher.specs.Reach.{begins_path}
use Rattle.buffer.proofs.Tests.{and_false, not_both}
use Rattle.glob.specs.Inner.{Skipped}
use Rattle.glob.proofs.Skips.{through}
use Rattle.glob.proofs.Parts.{step}

-- c may stand before next
abbrev pub may_stand : ℕ → ℕ → ℕ → Bool
may_stand m c next = cond (eqb c m) (not (eqb next m)) (label_byte c)

-- a label byte may, where the mark is none
pub label_stands : (m c next : ℕ) → label_byte m ≡ false → label_byte c ≡ true → true ≡ may_stand m c next
label_stands m c next n e = rw (ne_eqb c m (λ z. not_both e (ap label_byte z ∙ n)), e)

pub apart_step : (m : ℕ) (s : List ℕ) (i : ℕ) → i < length s → apart m (drop i s) ≡ may_stand m (get_or s i 0) (get_or s (i + 1) 0) && apart m (drop (i + 1) s)
apart_step m s i l = ap (apart m) (step s i l) ∙ ap (λ (d : ℕ). may_stand m (get_or s i 0) d && apart m (drop (i + 1) s)) (get_or-drop (i + 1) s 0 0 ∙ ap (λ (n : ℕ). get_or s n 0) (add-zero (i + 1)))

-- the byte at i may not stand there, or it may, and what comes after it decides
module _ (m : ℕ) (s : List ℕ) (i : ℕ) (l : i < length s) where
  pub apart_stop : may_stand m (get_or s i 0) (get_or s (i + 1) 0) ≡ false → apart m (drop i s) ≡ false
  apart_stop e = apart_step m s i l ∙ rw e

  pub apart_on : may_stand m (get_or s i 0) (get_or s (i + 1) 0) ≡ true → apart m (drop i s) ≡ apart m (drop (i + 1) s)
  apart_on e = apart_step m s i l ∙ rw e

-- label bytes say nothing of what comes after them
pub apart_past : (m : ℕ) (s : List ℕ) (n from r : ℕ) → label_byte m ≡ false → n < length s → Skipped (LabelAt s) n from r → apart m (drop from s) ≡ apart m (drop r s)
apart_past m s n from r e l a =
    through (LabelAt s) n from (λ (i : ℕ). apart m (drop from s) ≡ apart m (drop i s)) (λ i h f q. q ∙ apart_on m s i (omega arith) (sym (label_stands m _ _ e f))) r a refl

-- bytes that begin a path, and are some
pub begins_some : (k : List ℕ) → (length k ≡ 0 → ⊥) → begins_path k ≡ eqb (get_or k 0 0) slash && apart slash k
begins_some [] f = absurd (f refl)
begins_some (c ∷ k) f = refl

-- the last byte
abbrev pub last_byte : List ℕ → ℕ
last_byte s = get_or s (length s - 1) 0

last_step : (c d : ℕ) (u : List ℕ) → last_byte (c ∷ d ∷ u) ≡ last_byte (d ∷ u)
last_step c d u = ap (λ (n : ℕ). get_or (c ∷ d ∷ u) n 0) (less (suc (length u))) ∙ sym (ap (λ (n : ℕ). get_or (d ∷ u) n 0) (less (length u)))
  where
    less : (n : ℕ) → suc n - 1 ≡ n
    less n = omega arith

and_assoc : (a b c : Bool) → (a && b) && c ≡ a && (b && c)
and_assoc true b c = refl
and_assoc false b c = refl

and_right_true : (a : Bool) → a && true ≡ a
and_right_true true = refl
and_right_true false = refl

-- the labels of s, and what stands before the first, are formed
abbrev formed_from : List ℕ → Bool
formed_from s = all label_byte (up_to_slash s) && all path_label (labels_of s)

-- .. exactly where its bytes are apart, and the last is no `/`
abbrev apart_to : List ℕ → Bool
apart_to s = apart slash s && not (eqb (last_byte s) slash)

none_up : (d : ℕ) (u : List ℕ) → none (up_to_slash (d ∷ u)) ≡ eqb d slash
none_up d u = go (eqb d slash)
  where
    go : (b : Bool) → none (cond b [] (d ∷ up_to_slash u)) ≡ b
    go true = refl
    go false = refl

regroup : (a b x y v w : Bool) → a ≡ b → x && y ≡ v && w → (a && x) && y ≡ (b && v) && w
regroup a b x y v w e h = and_assoc a x y ∙ ap₂ ◌&&◌ e h ∙ sym (and_assoc b v w)

from_to : (s : List ℕ) → formed_from s ≡ apart_to s
from_to [] = refl
from_to (c ∷ []) = go (eqb c slash)
  where
    go : (b : Bool) → all label_byte (cond b [] (c ∷ [])) && all path_label (cond b ([] ∷ []) []) ≡ (cond b true (label_byte c) && true) && not b
    go true = refl
    go false = refl
from_to (c ∷ d ∷ u) = rw (last_step c d u) (go (eqb c slash) (d ∷ u) (none_up d u) (from_to (d ∷ u)))
  where
    go : (b : Bool) (t : List ℕ) → none (up_to_slash t) ≡ eqb d slash → formed_from t ≡ apart_to t → all label_byte (cond b [] (c ∷ up_to_slash t)) && all path_label (cond b (up_to_slash t ∷ labels_of t) (labels_of t)) ≡ (cond b (not (eqb d slash)) (label_byte c) && apart slash t) && not (eqb (last_byte t) slash)
    go true t e ih = regroup (not (none (up_to_slash t))) (not (eqb d slash)) (all label_byte (up_to_slash t)) (all path_label (labels_of t)) (apart slash t) (not (eqb (last_byte t) slash)) (ap not e) ih
    go false t e ih = regroup (label_byte c) (label_byte c) (all label_byte (up_to_slash t)) (all path_label (labels_of t)) (apart slash t) (not (eqb (last_byte t) slash)) refl ih

-- a path, by its bytes
pub formed_bytes : (s : List ℕ) → formed_path s ≡ eqb (get_or s 0 0) slash && apart_to s
formed_bytes [] = refl
formed_bytes (c ∷ t) = go (eqb c slash) refl (from_to (c ∷ t))
  where
    go : (b : Bool) → eqb c slash ≡ b → formed_from (c ∷ t) ≡ apart_to (c ∷ t) → b && all path_label (labels_of (c ∷ t)) ≡ b && apart_to (c ∷ t)
    go true q h = ap (λ (b : Bool). all label_byte (cond b [] (c ∷ up_to_slash t)) && all path_label (labels_of (c ∷ t))) (sym q) ∙ h
    go false q h = refl

pub ends_slash : (s : List ℕ) → last_byte s ≡ slash → formed_path s ≡ false
ends_slash s e = formed_bytes s ∙ and_false (eqb (get_or s 0 0) slash) (apart_to s) (and_false (apart slash s) (not (eqb (last_byte s) slash)) (rw (eq-eqb (last_byte s) slash e)))

pub ends_label : (s : List ℕ) → (length s ≡ 0 → ⊥) → (last_byte s ≡ slash → ⊥) → formed_path s ≡ begins_path s
ends_label s f e = formed_bytes s ∙ rw (ne_eqb (last_byte s) slash e, and_right_true (apart slash s)) (sym (begins_some s f))
