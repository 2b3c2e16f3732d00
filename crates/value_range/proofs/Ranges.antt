-- The value test, by the tests it is made of. Assumes nothing.
use mathlib.Core.Path.{◌≡◌, refl, sym, ap, subst, ◌∙◌}
use mathlib.Core.Bool.{true, false, cond, ◌&&◌, and_comm}
use Prim.Native.Nat.{ℕ, zero, suc, ◌+◌, ◌-◌, ◌*◌, ◌/◌, ◌%◌, ◌^◌, ◌≤◌, ◌<◌}
use mathlib.Core.List.{List, [], ◌∷◌, ◌++◌}
use native.Mathlib.Omega.{arith}
use native.Mathlib.Nat.{add-mul, one-mul, mul_assoc, le-div_iff_mul-le, div-lt_iff_lt-mul, one-le-pow, zero-lt-suc, pow-suc, pow-le-pow_right, div-eq_of_lt, lt_of_lt_of_le}
use lib.ListN.{length, take, drop, get_or, length-append}
use Rattle.std.specs.Option.{SomeIff, unwrap_or}
use Rattle.std.specs.Prelude.{Option, Some, None}
use lib.Pow.{pow-add, shl_exact, high}
use lib.Seq.{length-take-le}
use lib.Dec.{leb, eqb}
use borrow.Author.Tests.{le-leb, lt-leb, leb-true}
use Rattle.buffer.specs.Lists.{all}
use Rattle.buffer.specs.Splice.{region}
use Rattle.buffer.specs.Numbers.{number, byte}
use Rattle.buffer.proofs.Lists.{tested_take, tested_drop}
use Rattle.buffer.proofs.Splice.{region_snoc, region_add, length_region}
use Rattle.buffer.proofs.Digits.{number_append, number_below}
use Rattle.buffer.proofs.Tests.{and_false, bool_ext}
use Rattle.matcher.specs.declared.reach.Answer.TheVariants.{Match, Mismatch, Incomplete}
use Rattle.rows.specs.Sizes.{value_size}
use Rattle.entries.specs.Query.{Query, value_reach, overlaps, lowest, highest, asked}
use Rattle.entries.proofs.Branch.{least, greatest}
use Rattle.value_range.specs.Spans.{Steps, Spans}

pub out_long : (pattern k : List ℕ) (low high : ℕ) → value_size < length k → Mismatch ≡ value_reach (asked pattern low high) k
unfolding value_reach overlaps
out_long pattern k low high h = rw (lt-leb (length k) value_size h, and_false (leb low high) false refl)

-- ---- steps of a width

module _ (low high first width : ℕ) where
  module _ (wide : 0 < width) (range : low ≤ high) (inside : first ≤ high) where
    last_step : (i : ℕ) → leb i ((high - first) / width) ≡ leb (first + i * width) high
    last_step i =
        bool_ext _ _
        (λ e. let h : i * width ≤ high - first = (le-div_iff_mul-le wide).0 (leb-true i _ e) in le-leb _ high (omega arith))
        (λ e. let h = leb-true (first + i * width) high e in le-leb i _ ((le-div_iff_mul-le wide).1 (omega arith)))

    first_step : (i : ℕ) → leb ((low - first) / width) i ≡ leb low (first + i * width + (width - 1))
    first_step i =
        let m : (i + 1) * width ≡ i * width + width = add-mul i 1 width ∙ rw (one-mul width) in
        bool_ext _ _
        (λ e. let g = leb-true _ i e in let h : low - first < (i + 1) * width = (div-lt_iff_lt-mul wide).0 (omega arith) in le-leb low _ (omega arith))
        (λ e. let g = leb-true low _ e in
        let h : (low - first) / width < i + 1 = (div-lt_iff_lt-mul wide).1 (omega arith) in le-leb _ i (omega arith))

    pub steps_are : (from : ℕ) → from ≡ (low - first) / width → Steps low high first width from ((high - first) / width)
    steps_are from e =
        record { are = λ i. rw (e, first_step i, last_step i, le-leb low high range) (and_comm (leb low (first + i * width + (width - 1))) (leb (first + i * width) high)) }

-- ---- the span behind known bytes

module _ (q : Query) (k : List ℕ) (n from to : ℕ) (short : length k + n ≤ value_size) where
  abbrev left : ℕ
  left = value_size - length k - n

  -- the values that begin with the known bytes and n more
  module _ (r : List ℕ) (long : length r ≡ n) where
    both_long : length (k ++ r) ≡ length k + n
    both_long = omega (arith, length-append k r)

    left_over : value_size - length (k ++ r) ≡ left
    left_over = omega (arith, both_long)

    first_of : number (k ++ r) * 256 ^ left ≡ lowest k + number r * 256 ^ left
    unfolding lowest
    first_of =
        let s : n + left ≡ value_size - length k = omega arith in
        let p : 256 ^ (value_size - length k) ≡ 256 ^ n * 256 ^ left = ap (λ (j : ℕ). 256 ^ j) (sym s) ∙ pow-add 256 n left in
        rw (number_append k r, long, add-mul (number k * 256 ^ n) (number r) (256 ^ left), mul_assoc (number k) (256 ^ n) (256 ^ left), least k (value_size - length k), p)

    low_end : lowest (k ++ r) ≡ lowest k + number r * 256 ^ left
    unfolding lowest
    low_end = rw left_over (least (k ++ r) left ∙ first_of)

    high_end : highest (k ++ r) ≡ lowest k + number r * 256 ^ left + (256 ^ left - 1)
    unfolding highest
    high_end =
        let g = greatest (k ++ r) left in
        let one : 1 ≤ 256 ^ left = one-le-pow left 256 (zero-lt-suc 255) in
        rw left_over (omega (arith, first_of, g))

  pub spans : Steps q.low q.high (lowest k) (256 ^ left) from to → Spans q k n from to
  unfolding overlaps
  spans s =
      record {
        are = λ r long.
            s.are (number r) ∙ rw (low_end r long, high_end r long, le-leb (length (k ++ r)) value_size (omega (arith, both_long r long)));
      }

-- behind no byte
pub spans_first : (q : Query) (n from to : ℕ) → n ≤ value_size → Steps q.low q.high 0 (256 ^ (value_size - n)) from to → Spans q [] n from to
unfolding lowest number
spans_first q n from to short s = spans q [] n from to (omega arith) s

-- ---- the answer by the span

module _ (q : Query) (k s : List ℕ) (from to : ℕ) (spans-s : Spans q k (length s) from to) where
  pub with_span : value_reach q (k ++ s) ≡ cond (leb from (number s) && leb (number s) to) (cond (eqb (length k + length s) value_size) Match Incomplete) Mismatch
  unfolding value_reach
  with_span = rw (← spans-s.are s refl, length-append k s)

  pub with_below : number s < from → Mismatch ≡ value_reach q (k ++ s)
  with_below h = rw (with_span, lt-leb from (number s) h)

  pub with_above : to < number s → Mismatch ≡ value_reach q (k ++ s)
  with_above h = rw (with_span, and_false (leb from (number s)) (leb (number s) to) (lt-leb (number s) to h))

-- ---- one byte more

pub one_long : (s : List ℕ) → (length s ≡ 0 → ⊥) → length (take 1 s) ≡ 1
one_long s f = length-take-le 1 s (omega arith)

pub too_long : (pattern k s : List ℕ) (low high : ℕ) → value_size ≤ length k → (length s ≡ 0 → ⊥) → Mismatch ≡ value_reach (asked pattern low high) (k ++ take 1 s)
too_long pattern k s low high h f = out_long pattern (k ++ take 1 s) low high (omega (arith, length-append k (take 1 s), one_long s f))

-- ---- the number of bytes, one after another

pub number_none : 0 ≡ number []
unfolding number
number_none = refl

pub number_more : (s : List ℕ) (i : ℕ) → i < length s → number (take (i + 1) s) ≡ number (take i s) * 256 + get_or s i 0
unfolding number
number_more s i h =
    let z : 0 + i ≡ i = omega arith in
    ap number (rw z at (region_snoc s 0 i (omega arith))) ∙ number_append (take i s) (get_or s i 0 ∷ []) ∙ omega arith

pub number_room : (x b i : ℕ) → x < 256 ^ i → b < 256 → (x * 256 + b < 256 ^ (i + 1))
number_room x b i h l = omega (arith, pow-add 256 i 1)

pub number_fits : (x i : ℕ) → x < 256 ^ i → i < value_size → x * 256 + 255 < 18446744073709551616
number_fits x i h l =
    let p : 256 ^ i ≤ 256 ^ 7 = pow-le-pow_right (zero-lt-suc 255) {i = i} {j = 7} (omega arith) in
    omega (arith, h, p)

-- ---- shifts by whole bytes

bits : (n : ℕ) → 2 ^ (8 * n) ≡ 256 ^ n
bits zero = refl
bits (suc n) =
    let e : 8 * suc n ≡ 8 * n + 8 = omega arith in
    rw (e, pow-add 2 (8 * n) 8, bits n) (sym (pow-suc 256 n))

-- a shift that `None` stands for where it takes all bits
pub shifted : (x n : ℕ) (o : Option ℕ) → x < 18446744073709551616 → n ≤ value_size → SomeIff o (8 * n < 64) (x / 2 ^ (8 * n)) → unwrap_or o 0 ≡ x / 256 ^ n
shifted x n None h l s = sym (div-eq_of_lt (lt_of_lt_of_le h (pow-le-pow_right (zero-lt-suc 255) {i = 8} {j = n} (omega arith))))
shifted x n (Some y) h l s = s.1 ∙ ap (λ (d : ℕ). x / d) (bits n)

-- the first n of eight bytes that are read as one number
pub number_shifted : (s : List ℕ) (o n x : ℕ) → all byte s ≡ true → o + value_size ≤ length s → n ≤ value_size → x ≡ number (region s o value_size)
    → x / 256 ^ (value_size - n) ≡ number (region s o n)
number_shifted s o n x b l h e =
    let j : ℕ = value_size - n in
    let first = region s o n in
    let rest = region s (o + n) j in
    let sum : value_size ≡ n + j = omega arith in
    let long : length rest ≡ j = length_region s (o + n) j (omega arith) in
    let small : number rest < 256 ^ j = subst (λ (m : ℕ). number rest < 256 ^ m) long (number_below rest (tested_take byte j (drop (o + n) s) (tested_drop byte (o + n) s b))) in
    let whole : x ≡ number first * 2 ^ (8 * j) + number rest =
    e ∙ ap (λ (m : ℕ). number (region s o m)) sum ∙ ap number (region_add s o n j) ∙ number_append first rest ∙ ap (λ (m : ℕ). number first * 256 ^ m + number rest) long ∙ ap (λ (m : ℕ). number first * m + number rest) (sym (bits j)) in
    ap (λ (d : ℕ). x / d) (sym (bits j)) ∙ ap (λ (y : ℕ). y / 2 ^ (8 * j)) whole ∙ high (number first) (8 * j) (rw (bits j) small)

-- known bytes as a number, shifted up over those that are left; `None` stands for a shift by all bits, where none is known
pub lowest_shifted : (k : List ℕ) (x : ℕ) (o : Option ℕ) → all byte k ≡ true → length k ≤ value_size → x ≡ number k
    → SomeIff o (8 * (value_size - length k) < 64) ((x * 2 ^ (8 * (value_size - length k))) % 2 ^ 64) → unwrap_or o 0 ≡ lowest k
unfolding lowest number
lowest_shifted [] x None b l e s = refl
lowest_shifted (c ∷ k) x None b l e s = absurd (s (omega arith))
lowest_shifted k x (Some y) b l e s =
    let j : ℕ = value_size - length k in
    let h : x < 256 ^ length k = rw e (number_below k b) in
    s.1 ∙ shl_exact {a = x} (8 * length k) (8 * j) 64 (rw (bits (length k)) h) (omega arith) ∙ rw (bits j, e) (sym (least k j))

pub power_positive : (i : ℕ) → 0 < 256 ^ i
power_positive i = one-le-pow i 256 (zero-lt-suc 255)
