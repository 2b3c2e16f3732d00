-- A number's digits: the last one and those before it, at most 20 below 2^64. Assumes nothing.
use mathlib.Core.Path.{◌≡◌, ap, ◌∙◌}
use mathlib.Core.Bool.{Bool, true, false, cond}
use mathlib.Core.List.{List, [], ◌∷◌, ◌++◌}
use Prim.Native.Nat.{ℕ, zero, suc, ◌+◌, ◌/◌, ◌%◌, ◌^◌, ◌≤◌, ◌<◌}
use native.Mathlib.Omega.{arith}
use native.Mathlib.Nat.{pow-suc, div-lt_iff_lt-mul, zero-lt-suc}
use lib.ListN.{length, length-append}
use lib.Dec.{ltb}
use borrow.Author.Tests.{lt-ltb, le-ltb}
use Rattle.linespell.specs.Spelling.{decimal_in, decimal}

-- room for one digit more changes nothing
enough : (k n : ℕ) → n < 10 ^ suc k → decimal_in k n ≡ decimal_in (suc k) n
unfolding decimal_in
enough zero n h =
    let e : n % 10 ≡ n = omega arith in
    rw (lt-ltb n 10 h, e)
enough (suc k) n h =
    let q : n / 10 < 10 ^ suc k = (div-lt_iff_lt-mul (zero-lt-suc 9)).1 (omega (arith, pow-suc 10 (suc k))) in
    rw (enough k (n / 10) q)

length_in : (k n : ℕ) → length (decimal_in k n) ≤ suc k
unfolding decimal_in
length_in zero n = omega arith
length_in (suc k) n = go (ltb n 10) (length_in k (n / 10))
  where
    go : (t : Bool) → length (decimal_in k (n / 10)) ≤ suc k → length (cond t ((48 + n) ∷ []) (decimal_in k (n / 10) ++ ((48 + n % 10) ∷ []))) ≤ suc (suc k)
    go true h = omega arith
    go false h = omega (arith, length-append (decimal_in k (n / 10)) ((48 + n % 10) ∷ []))

pub length_decimal : (n : ℕ) → length (decimal n) ≤ 20
unfolding decimal
length_decimal n = length_in 19 n

pub decimal_low : (n : ℕ) → n < 10 → decimal n ≡ (48 + n) ∷ []
unfolding decimal decimal_in
decimal_low n h = rw (lt-ltb n 10 h)

in_high : (k n : ℕ) → 10 ≤ n → decimal_in (suc k) n ≡ decimal_in k (n / 10) ++ ((48 + n % 10) ∷ [])
unfolding decimal_in
in_high k n h = rw (le-ltb n 10 h)

pub decimal_high : (n : ℕ) → 10 ≤ n → n < 2 ^ 64 → decimal n ≡ decimal (n / 10) ++ ((48 + n % 10) ∷ [])
unfolding decimal
decimal_high n h k = in_high 18 n h ∙ ap (λ (l : List ℕ). l ++ ((48 + n % 10) ∷ [])) (enough 18 (n / 10) (omega arith))

-- how far the digits before the last one reach
pub decimal_shorter : (n : ℕ) → 10 ≤ n → n < 2 ^ 64 → length (decimal n) ≡ length (decimal (n / 10)) + 1
decimal_shorter n h k = ap length (decimal_high n h k) ∙ length-append (decimal (n / 10)) ((48 + n % 10) ∷ [])
