-- Parts of a slice as lists: what `&l[1..]`, `&l[1..a]` and `&l[a..]` hold, and one step of a walk along a list. Assumes nothing.
use mathlib.Core.Path.{◌≡◌, refl, ap, sym, ◌∙◌}
use mathlib.Core.List.{List, [], ◌∷◌}
use Prim.Native.Nat.{ℕ, ◌+◌, ◌-◌, ◌<◌, ◌≤◌}
use native.Mathlib.Numerals.{add-one}
use native.Mathlib.Omega.{arith}
use lib.ListN.{length, take, drop, get_or, length-drop}
use lib.Seq.{drop-cons, drop-drop}
use mathlib.Core.Bool.{false}
use Rattle.buffer.specs.Lists.{none}
pub use Rattle.buffer.proofs.Lists.{tail_part, no_items}

pub an_item : {A : Type 0} (d : A) (l : List A) → (length l ≡ 0 → ⊥) → l ≡ get_or l 0 d ∷ drop 1 l
an_item d [] f = absurd (f refl)
an_item d (x ∷ l) f = refl

-- &l[1..]
abbrev pub rest : List ℕ → List ℕ
rest l = take (length l - 1) (drop 1 l)

pub split : (l : List ℕ) → (length l ≡ 0 → ⊥) → l ≡ get_or l 0 0 ∷ rest l
split l f = rw (tail_part 1 l) (an_item 0 l f)

-- &l[1..a]
abbrev pub front : List ℕ → ℕ → List ℕ
front l a = take (a - 1) (drop 1 l)

-- &l[a..]
abbrev pub back : List ℕ → ℕ → List ℕ
back l a = take (length l - a) (drop a l)

pub length_back : (k : List ℕ) (b : ℕ) → length (back k b) ≡ length k - b
length_back k b = rw (tail_part b k) (length-drop b k)

-- a walk along a list: what is left from i on is the element there and what is left from i + 1 on
pub step : (s : List ℕ) (i : ℕ) → i < length s → drop i s ≡ get_or s i 0 ∷ drop (i + 1) s
step s i l = rw add-one (drop-cons s i 0 l)

pub not_none : {A : Type 0} (l : List A) → (length l ≡ 0 → ⊥) → none l ≡ false
not_none [] f = absurd (f refl)
not_none (x ∷ l) f = refl

-- &l[0..] is l, and parts of parts are parts
pub back_all : (l : List ℕ) → back l 0 ≡ l
back_all l = tail_part 0 l

pub back_step : (s : List ℕ) (i : ℕ) → i < length s → back s i ≡ get_or s i 0 ∷ back s (i + 1)
back_step s i l = tail_part i s ∙ step s i l ∙ ap (λ (t : List ℕ). get_or s i 0 ∷ t) (sym (tail_part (i + 1) s))

pub back_back : (s : List ℕ) (a b : ℕ) → back (back s a) b ≡ back s (a + b)
back_back s a b = tail_part b (back s a) ∙ ap (drop b) (tail_part a s) ∙ drop-drop b a s ∙ sym (tail_part (a + b) s)

pub back_end : (s : List ℕ) (i : ℕ) → length s ≤ i → length (back s i) ≡ 0
back_end s i l = length_back s i ∙ omega arith

-- the place of the last element
pub last_place : (n : ℕ) → (n ≡ 0 → ⊥) → n - 1 < n
last_place n f = omega arith
