-- The rule of digits loses no entry and adds none: the levels from the highest down, then the small trie's entries, are the entries.
use Prim.Native.Nat.{ℕ, zero, suc, ◌+◌, ◌*◌, ◌/◌, ◌%◌, ◌^◌, ◌≤◌, ◌<◌}
use mathlib.Core.Path.{◌≡◌, sym, ap, ◌∙◌, subst}
use mathlib.Core.List.{List, ◌++◌}
use native.Mathlib.Omega.{arith}
use native.Mathlib.Nat.{mul_assoc, mul_comm, mul-add, pow-suc, pow-zero, div-one, mul-one, mul-zero, div-div-eq-div-mul, div-eq_of_lt, div-lt_iff_lt-mul, div-mul-le_self, mul-le-mul_left, zero-mul, zero-lt-suc}
use lib.ListN.{length, take, drop, take-append-drop, length-drop}
use lib.Seq.{drop-drop, length-take-le}
use Rattle.rows.specs.Entry.{Entry}
use Rattle.book.specs.Digits.{digit, quotient, level_size, level_start, level, small}
use Rattle.book.specs.Overflow.{from_highest}

-- where the entries of the levels below i begin
unfoldable pub begin : ℕ → ℕ → ℕ → ℕ
begin m i n = m * 2 ^ i * (n / 2 ^ i)

halves : (x q : ℕ) → x * 2 * (q / 2) + x * (q % 2) ≡ x * q
halves x q = rw (mul_assoc x 2 (q / 2), ← mul-add x (2 * (q / 2)) (q % 2)) (ap (λ (k : ℕ). x * k) (omega arith))

pub begin_step : (m i n : ℕ) → begin m (suc i) n + m * 2 ^ i * digit i n ≡ begin m i n
unfolding begin digit
begin_step m i n = rw (pow-suc 2 i, ← div-div-eq-div-mul n (2 ^ i) 2, ← mul_assoc m (2 ^ i) 2) (halves (m * 2 ^ i) (n / 2 ^ i))

begin_zero : (m n : ℕ) → begin m 0 n ≡ m * n
unfolding begin
begin_zero m n = rw (pow-zero 2, div-one n, mul-one m)

pub below : (m l : ℕ) (es : List Entry) → drop (begin m l (quotient m es)) es ≡ from_highest m l es
unfolding from_highest small level level_size level_start begin
below m zero es = ap (λ (k : ℕ). drop k es) (begin_zero m (quotient m es))
below m (suc l) es =
    let from = begin m (suc l) (quotient m es) in
    let size = m * 2 ^ l * digit l (quotient m es) in
    sym (take-append-drop size (drop from es))
    ∙ ap (λ (x : List Entry). take size (drop from es) ++ x)
    (drop-drop size from es ∙ ap (λ (k : ℕ). drop k es) (begin_step m l (quotient m es)) ∙ below m l es)

begin_none : (m l n : ℕ) → n < m * 2 ^ l → begin m l (n / m) ≡ 0
unfolding begin
begin_none zero l n h = absurd (let z : zero * 2 ^ l ≡ 0 = zero-mul (2 ^ l) in omega arith)
begin_none (suc m) l n h =
    let q : n / suc m < 2 ^ l = (div-lt_iff_lt-mul (zero-lt-suc m)).1 (subst (λ (x : ℕ). n < x) (mul_comm (suc m) (2 ^ l)) h) in
    rw (div-eq_of_lt q) (mul-zero (suc m * 2 ^ l))

-- none lost or added
pub levels_whole : (m l : ℕ) (es : List Entry) → length es < m * 2 ^ l → from_highest m l es ≡ es
unfolding quotient
levels_whole m l es h = sym (below m l es) ∙ ap (λ (k : ℕ). drop k es) (begin_none m l (length es) h)

pub begin_held : (m i n : ℕ) → begin m i n ≤ m * n
unfolding begin
begin_held m i n = rw (mul_assoc m (2 ^ i) (n / 2 ^ i), mul_comm (2 ^ i) (n / 2 ^ i)) (mul-le-mul_left m (div-mul-le_self n (2 ^ i)))

-- level i has M × 2^i entries where the digit is 1, and none otherwise
pub level_length : (m i : ℕ) (es : List Entry) → length (level m i es) ≡ m * 2 ^ i * digit i (quotient m es)
unfolding level level_size level_start quotient begin
level_length m i es =
    let n = quotient m es in
    let h₁ : begin m (suc i) n + m * 2 ^ i * digit i n ≡ begin m i n = begin_step m i n in
    let h₂ : begin m i n ≤ m * n = begin_held m i n in
    let h₃ : m * n ≤ length es = subst (λ (x : ℕ). x ≤ length es) (mul_comm (length es / m) m) (div-mul-le_self (length es) m) in
    length-take-le (m * 2 ^ i * digit i n) (drop (begin m (suc i) n) es) (rw (length-drop (begin m (suc i) n) es) (omega arith))
