-- The fields' definitions at a position of a line: one turn of each loop, and what the loops end with. Assumes nothing.
use mathlib.Core.Path.{◌≡◌, refl, ap}
use Rattle.std.specs.List.{list_all}
use mathlib.Core.Bool.{Bool, true, false, cond, not, ◌&&◌}
use mathlib.Core.List.{List, [], ◌∷◌}
use Prim.Native.Nat.{ℕ, suc, ◌+◌, ◌-◌, ◌*◌, ◌^◌, ◌≤◌, ◌<◌}
use native.Mathlib.Omega.{arith}
use native.Mathlib.Numerals.{add-one}
use lib.ListN.{length, get_or, drop, drop_of_length-le}
use lib.Seq.{drop-cons}
use lib.Dec.{eqb, leb}
use lib.Pointwise.{pointwise}
use borrow.Author.Tests.{lt-ltb, le-ltb, eq-eqb, ne_eqb, eqb-true}
use Rattle.buffer.specs.Lists.{all}
use Rattle.buffer.proofs.Tests.{and_left}
use Rattle.linefields.specs.Fields.{width, only, digit, number_from, plain, hex_digit, hex_value, is_reference}
use Rattle.std.proofs.Common.{Some, None, nat_eq, unwrap_or, is_some}
use Rattle.std.specs.Char.{is_ascii_digit}
use Rattle.std.proofs.lemmas.Bool.Decides.{nat_tests}

-- ---- the end of a field

pub width_hit : (b : ℕ) (s : List ℕ) → b ≡ 44 → width (b ∷ s) ≡ 0
unfolding width
width_hit b s e = rw (eq-eqb b 44 e)

pub width_miss : (b : ℕ) (s : List ℕ) → (b ≡ 44 → ⊥) → width (b ∷ s) ≡ width s + 1
unfolding width
width_miss b s e = rw (ne_eqb b 44 e, add-one)

pub width_within : (s : List ℕ) → width s ≤ length s
unfolding width
width_within [] = omega arith
width_within (b ∷ s) = go (eqb b 44) (width_within s)
  where
    go : (t : Bool) → width s ≤ length s → cond t 0 (suc (width s)) ≤ suc (length s)
    go true h = omega arith
    go false h = omega arith

-- ---- one byte

pub only_is : (b : ℕ) (f : List ℕ) → pointwise nat_eq f (b ∷ []) ≡ only b f
unfolding only
only_is b [] = refl
only_is b (x ∷ []) = grind (arith, nat_tests)
only_is b (x ∷ y ∷ f) = grind (arith, nat_tests)

-- ---- numbers

pub number_end : (s : List ℕ) (n i : ℕ) → length s ≤ i → n < 2 ^ 64 → number_from n (drop i s) ≡ Some n
unfolding number_from
number_end s n i h k = rw (drop_of_length-le s h, lt-ltb n (2 ^ 64) k)

module _ (s : List ℕ) (n i : ℕ) (h : i < length s) where
  pub number_digit : is_ascii_digit (get_or s i 0) ≡ true → number_from n (drop i s) ≡ number_from (n * 10 + (get_or s i 0 - 48)) (drop (i + 1) s)
  unfolding number_from
  number_digit d = rw (drop-cons s i 0 h, d, add-one)

  pub number_other : is_ascii_digit (get_or s i 0) ≡ false → number_from n (drop i s) ≡ None
  unfolding number_from
  number_other d = rw (drop-cons s i 0 h, d)

-- too large stays too large
pub number_large : (s : List ℕ) (n : ℕ) → 2 ^ 64 ≤ n → number_from n s ≡ None
unfolding number_from
number_large [] n h = rw (le-ltb n (2 ^ 64) h)
number_large (b ∷ s) n h = go (digit b) (number_large s (n * 10 + (b - 48)) (omega arith))
  where
    go : (t : Bool) → number_from (n * 10 + (b - 48)) s ≡ None → cond t (number_from (n * 10 + (b - 48)) s) None ≡ None
    go true e = e
    go false e = refl

pub plain_is : (s : List ℕ) → plain s ≡ (leb 1 (length s) && not (leb 2 (length s) && eqb (get_or s 0 0) 48))
unfolding plain
plain_is [] = refl
plain_is (b ∷ []) = refl
plain_is (b ∷ d ∷ s) = grind (arith, nat_tests)

-- ---- hex digits

pub worth_there : (b : ℕ) → is_some (cond (hex_digit b) (Some (hex_value b)) None) ≡ hex_digit b
worth_there b = go (hex_digit b)
  where
    go : (t : Bool) → is_some (cond t (Some (hex_value b)) None) ≡ t
    go true = refl
    go false = refl

pub all_is : (t : ℕ → Bool) (s : List ℕ) → list_all t s ≡ all t s
all_is t [] = refl
all_is t (b ∷ s) = ap (◌&&◌ (t b)) (all_is t s)

pub reference_short : (s : List ℕ) → (length s ≡ 40 → ⊥) → is_reference s ≡ false
unfolding is_reference
reference_short s h = rw (ne_eqb (length s) 40 h)

pub reference_is : (s : List ℕ) → length s ≡ 40 → is_reference s ≡ all hex_digit s
unfolding is_reference
reference_is s h = rw (eq-eqb (length s) 40 h)

pub reference_length : (s : List ℕ) → is_reference s ≡ true → length s ≡ 40
unfolding is_reference
reference_length s h = eqb-true (length s) 40 (and_left (eqb (length s) 40) (all hex_digit s) h)

-- what a byte is worth is below 16, and 0 where it is no hex digit
pub hex_worth : (b : ℕ) → (unwrap_or (cond (hex_digit b) (Some (hex_value b)) None) 0 ≡ hex_value b) × (hex_value b < 16)
unfolding hex_digit hex_value
hex_worth b = (grind (arith, nat_tests), grind (arith, nat_tests))
