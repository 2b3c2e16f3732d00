-- The rule of digits is the rule of overflow: an addition that does not bring the small trie to M entries puts its entry last there; one
-- that does empties it, and its entries and those of all levels below the first empty level go into that level.
use Prim.Native.Nat.{ℕ, zero, suc, ◌+◌, ◌*◌, ◌-◌, ◌/◌, ◌%◌, ◌^◌, ◌≤◌, ◌<◌}
use mathlib.Core.Path.{◌≡◌, refl, sym, ap, ◌∙◌, subst}
use mathlib.Core.List.{List, [], ◌∷◌, ◌++◌}
use native.Mathlib.Omega.{arith}
use native.Mathlib.Nat.{mul_assoc, mul_comm, pow-suc, div-div-eq-div-mul, div-add-mod', mul-zero, div-mul-le_self, mod-one, add-mul, one-mul, mul-div_cancel, mul-mod_left, mul-add, mul-one}
use lib.ListN.{length, take, drop, length-append, length-drop, drop_of_length-le}
use lib.Seq.{take-append-le, drop-append-le, take_all}
use lib.Pow.{pow_pos, pow-add}
use lib.Arith.{digits_div, mod-mul}
use Rattle.rows.specs.Entry.{Entry}
use Rattle.book.specs.Digits.{digit, quotient, level_size, level_start, level, small}
use Rattle.book.specs.Overflow.{from_highest, Stays, Overflows, RuleOfOverflow}
use Rattle.book.proofs.Digits.{begin, begin_step, begin_held, below}

-- numbers: one more, without and with a carry
quotient_stays : (n m : ℕ) → n % m + 1 < m → (n + 1) / m ≡ n / m
quotient_stays n m h = ap (λ (x : ℕ). x / m) (omega (arith, div-add-mod' n m)) ∙ digits_div (n / m) h

quotient_rises : (n m : ℕ) → 0 < m → n % m + 1 ≡ m → (n + 1) / m ≡ n / m + 1
quotient_rises n m p h = ap (λ (x : ℕ). x / m) (omega (arith, div-add-mod' n m, add-mul (n / m) 1 m, one-mul m)) ∙ digits_div (n / m + 1) p

-- all digits below j are 1
pub ones : (j n : ℕ) → ((i : ℕ) → i < j → digit i n ≡ 1) → n % 2 ^ j + 1 ≡ 2 ^ j
unfolding digit
ones zero n h = rw (mod-one n)
ones (suc j) n h =
    let ih = ones j n (λ i l. h i (omega arith)) in
    let d = h j (omega arith) in
    rw (pow-suc 2 j, mul_comm (2 ^ j) 2, mod-mul n {m = 2} {c = 2 ^ j} (pow_pos 1) (pow_pos j), d) (omega arith)

-- the digits of n + 1, where j is the first digit of n that is 0
module _ (j n : ℕ) (empty : digit j n ≡ 0) (others : (i : ℕ) → i < j → digit i n ≡ 1) where
  up : (n + 1) / 2 ^ j ≡ n / 2 ^ j + 1
  up = quotient_rises n (2 ^ j) (pow_pos j) (ones j n others)

  risen : n + 1 ≡ (n / 2 ^ j + 1) * 2 ^ j
  risen = omega (arith, div-add-mod' n (2 ^ j), ones j n others, add-mul (n / 2 ^ j) 1 (2 ^ j), one-mul (2 ^ j))

  digit_set : digit j (n + 1) ≡ 1
  unfolding digit
  digit_set = rw up (let h : n / 2 ^ j % 2 ≡ 0 = empty in omega arith)

  start_stays : (n + 1) / 2 ^ suc j ≡ n / 2 ^ suc j
  unfolding digit
  start_stays =
      rw (pow-suc 2 j, ← div-div-eq-div-mul (n + 1) (2 ^ j) 2, ← div-div-eq-div-mul n (2 ^ j) 2, up)
      (let h : n / 2 ^ j % 2 ≡ 0 = empty in omega arith)

  higher_stay : (k : ℕ) → (n + 1) / 2 ^ (suc j + k) ≡ n / 2 ^ (suc j + k)
  higher_stay k = rw (pow-add 2 (suc j) k, ← div-div-eq-div-mul (n + 1) (2 ^ suc j) (2 ^ k), ← div-div-eq-div-mul n (2 ^ suc j) (2 ^ k), start_stays)

  lower_clear : (i k : ℕ) → j ≡ suc k + i → digit i (n + 1) ≡ 0
  unfolding digit
  lower_clear i k e =
      let p : 2 ^ j ≡ 2 ^ k * 2 * 2 ^ i = ap (λ (x : ℕ). 2 ^ x) e ∙ pow-add 2 (suc k) i ∙ ap (λ (x : ℕ). x * 2 ^ i) (pow-suc 2 k) in
      let q = n / 2 ^ j + 1 in
      let r : n + 1 ≡ q * 2 ^ k * 2 * 2 ^ i = risen ∙ ap (λ (x : ℕ). q * x) p ∙ simp (mul_assoc) in
      let d : (n + 1) / 2 ^ i ≡ q * 2 ^ k * 2 = ap (λ (x : ℕ). x / 2 ^ i) r ∙ mul-div_cancel (q * 2 ^ k * 2) (pow_pos i) in
      rw d (mul-mod_left (q * 2 ^ k) 2)

-- the entries of a list that go into a level stay those when one more is added behind them
held_back : (m : ℕ) (es : List Entry) → m * quotient m es ≤ length es
unfolding quotient
held_back m es = subst (λ (x : ℕ). x ≤ length es) (mul_comm (length es / m) m) (div-mul-le_self (length es) m)

level_stays :
    (m i : ℕ) (es : List Entry) (e : Entry) → digit i (quotient m (es ++ (e ∷ []))) ≡ digit i (quotient m es) →
    quotient m (es ++ (e ∷ [])) / 2 ^ suc i ≡ quotient m es / 2 ^ suc i → level m i (es ++ (e ∷ [])) ≡ level m i es
unfolding level level_size level_start begin
level_stays m i es e d q =
    let n = quotient m es in
    let size = m * 2 ^ i * digit i n in
    let start = m * 2 ^ suc i * (n / 2 ^ suc i) in
    let h₁ : start + size ≡ begin m i n = begin_step m i n in
    let h₂ : begin m i n ≤ m * n = begin_held m i n in
    let h₃ : m * n ≤ length es = held_back m es in
    rw (d, q, drop-append-le start es (e ∷ []) (omega arith))
    (take-append-le size (drop start es) (e ∷ []) (rw (length-drop start es) (omega arith)))

-- how many the small trie has
pub small_length : (m : ℕ) (es : List Entry) → length (small m es) ≡ length es % m
unfolding small quotient
small_length m es =
    rw (length-drop (m * (length es / m)) es, mul_comm m (length es / m)) (omega (arith, div-add-mod' (length es) m))

-- an addition that leaves the small trie below M entries
pub stays : (m : ℕ) (es : List Entry) (e : Entry) → length (small m es) + 1 < m → Stays m es e
unfolding quotient small
stays m es e h =
    let one = e ∷ [] in
    let r : quotient m (es ++ one) ≡ quotient m es = ap (λ (x : ℕ). x / m) (length-append es one) ∙ quotient_stays (length es) m (subst (λ (x : ℕ). x + 1 < m) (small_length m es) h) in
    record {
      levels = λ i. level_stays m i es e (ap (digit i) r) (ap (λ (x : ℕ). x / 2 ^ suc i) r);
      last = ap (λ (x : ℕ). drop (m * x) (es ++ one)) r ∙ drop-append-le (m * quotient m es) es one (held_back m es);
    }

-- held + 1 is M × (rounds + 1)
pub round_full : (m : ℕ) (es : List Entry) → length (small m es) + 1 ≡ m → length es + 1 ≡ m * (quotient m es + 1)
unfolding quotient
round_full m es h =
    omega
    (arith, div-add-mod' (length es) m, small_length m es, mul-add m (length es / m) 1, mul-one m, mul_comm m (length es / m))

round_more : (m : ℕ) (es : List Entry) (e : Entry) → length (small m es) + 1 ≡ m → quotient m (es ++ (e ∷ [])) ≡ quotient m es + 1
unfolding quotient
round_more m es e h =
    ap (λ (x : ℕ). x / m) (length-append es (e ∷ []))
    ∙ quotient_rises (length es) m (omega arith) (subst (λ (x : ℕ). x + 1 ≡ m) (small_length m es) h)

module _
    (m j : ℕ) (es : List Entry) (e : Entry) (h : length (small m es) + 1 ≡ m) (empty : digit j (quotient m es) ≡ 0)
    (others : (i : ℕ) → i < j → digit i (quotient m es) ≡ 1) where
  -- where level j begins, before and after
  begin_same : begin m (suc j) (quotient m es) ≡ begin m j (quotient m es)
  begin_same = omega (arith, begin_step m j (quotient m es), ap (λ (x : ℕ). m * 2 ^ j * x) empty, mul-zero (m * 2 ^ j))

  -- the entries from there on, with the new one, fill level j
  fill : length es + 1 ≡ begin m j (quotient m es) + m * 2 ^ j
  unfolding begin
  fill =
      let n = quotient m es in
      round_full m es h ∙ ap (λ (x : ℕ). m * x) (risen j n empty others ∙ mul_comm (n / 2 ^ j + 1) (2 ^ j))
      ∙ sym (mul_assoc m (2 ^ j) (n / 2 ^ j + 1)) ∙ mul-add (m * 2 ^ j) (n / 2 ^ j) 1 ∙ ap (λ (x : ℕ). m * 2 ^ j * (n / 2 ^ j) + x) (mul-one (m * 2 ^ j))

  into_level : level m j (es ++ (e ∷ [])) ≡ from_highest m j es ++ (e ∷ [])
  unfolding level level_size level_start
  into_level =
      let n = quotient m es in
      let one = e ∷ [] in
      let from = begin m j n in
      let bound : from ≤ length es = omega (arith, begin_held m j n, held_back m es) in
      let tail : drop from (es ++ one) ≡ from_highest m j es ++ one = drop-append-le from es one bound ∙ ap (λ (l : List Entry). l ++ one) (below m j es) in
      let size : length (from_highest m j es ++ one) ≤ m * 2 ^ j * 1 = subst (λ (l : List Entry). length l ≤ m * 2 ^ j * 1) tail (simp (length-drop, length-append) (omega (arith, fill, mul-one (m * 2 ^ j)))) in
      rw (round_more m es e h, digit_set j n empty others, start_stays j n empty others)
      (ap (λ (k : ℕ). take (m * 2 ^ j * 1) (drop k (es ++ one))) (begin_here ∙ begin_same) ∙ ap (take (m * 2 ^ j * 1)) tail ∙ take_all (m * 2 ^ j * 1) _ size)
    where
      begin_here : m * 2 ^ suc j * (quotient m es / 2 ^ suc j) ≡ begin m (suc j) (quotient m es)
      begin_here = unfold begin in refl

  lower_empty : (i : ℕ) → i < j → level m i (es ++ (e ∷ [])) ≡ []
  unfolding level level_size
  lower_empty i l =
      rw (round_more m es e h, lower_clear j (quotient m es) empty others i (j - suc i) (omega arith), mul-zero (m * 2 ^ i))

  higher_same : (i : ℕ) → j < i → level m i (es ++ (e ∷ [])) ≡ level m i es
  unfolding digit
  higher_same i l =
      let n = quotient m es in
      let r = round_more m es e h in
      let q : (n + 1) / 2 ^ i ≡ n / 2 ^ i = subst (λ (x : ℕ). (n + 1) / 2 ^ x ≡ n / 2 ^ x) (let z : suc j + (i - suc j) ≡ i = omega arith in z) (higher_stay j n empty others (i - suc j)) in
      let q' : (n + 1) / 2 ^ suc i ≡ n / 2 ^ suc i = subst (λ (x : ℕ). (n + 1) / 2 ^ x ≡ n / 2 ^ x) (let z : suc j + (i - j) ≡ suc i = omega arith in z) (higher_stay j n empty others (i - j)) in
      level_stays m i es e (ap (digit i) r ∙ ap (λ (x : ℕ). x % 2) q) (ap (λ (x : ℕ). x / 2 ^ suc i) r ∙ q')

  small_emptied : small m (es ++ (e ∷ [])) ≡ []
  unfolding small
  small_emptied =
      rw (round_more m es e h)
      (drop_of_length-le (es ++ (e ∷ [])) {i = m * (quotient m es + 1)} (rw (length-append es (e ∷ [])) (omega (arith, round_full m es h))))

  pub overflows : Overflows m j es e
  overflows = record { into = into_level; lower = lower_empty; higher = higher_same; emptied = small_emptied }

-- THE RULE OF OVERFLOW
pub rule_of_overflow : RuleOfOverflow
rule_of_overflow m es e = (λ h. stays m es e h, λ j h empty others. overflows m j es e h empty others)
