-- The first that is empty, or all are not.
use native.Mathlib.Omega.{arith}
use Prim.Native.Nat.{ℕ, ◌≤◌, ◌<◌}
use mathlib.Core.Path.{◌≡◌}
use Rattle.std.specs.Prelude.{Option, Some, None, MatchOption}
use Rattle.std.proofs.Common.{rules, tests}
use Rattle.std.proofs.lemmas.Iterator.{first_from_Range}
use Rattle.book.specs.Digits.{digit}
use Rattle.store_overflow.specs.Steps.{FirstEmpty}
use Rattle.store_overflow.proofs.digits.first_empty.Goals as goal

first : (s l n : ℕ) (r : Option ℕ) → s ≡ 0
    → MatchOption r ((k : ℕ) → s ≤ k → k < l → digit k n ≡ 1) (λ i. (s ≤ i) × (i < l) × (digit i n ≡ 0) × ((k : ℕ) → s ≤ k → k < i → digit k n ≡ 1))
    → FirstEmpty l n r
first s l n None e all = λ k h. all k (omega arith) h
first s l n (Some j) e a = (a.1, λ k h. a.3 k (omega arith) h, a.2)

pub returns : goal.returns
unfolding digit
returns c =
    first _ c.args.l c.args.n _ (omega arith)
    (first_from_Range _ _ _ _ (λ j. digit j c.args.n ≡ 0) (λ j. digit j c.args.n ≡ 1) c.find.ensures.ran (λ x q k. grind (arith, tests)) (λ x q k. (search rules, grind (arith, tests))))
