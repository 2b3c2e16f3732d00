-- Places passed over, of each of which the same holds: none, one more, and more. Assumes nothing.
use mathlib.Core.Path.{◌≡◌, subst}
use mathlib.Core.Logic.{⊎_elim}
use Prim.Native.Nat.{ℕ, zero, suc, ◌+◌, ◌<◌, ◌≤◌}
use native.Mathlib.Decide.{dec_le}
use native.Mathlib.Nat.{lt_of_not-le}
use native.Mathlib.Numerals.{add-one}
use native.Mathlib.Omega.{arith}
use Rattle.buffer.proofs.Tests.{same?}
use Rattle.glob.specs.Inner.{Skipped}

module _ (Off : ℕ → Type 0) (n from : ℕ) where
  pub skip_none : from ≤ n + 1 → Skipped Off n from from
  skip_none l = record { low = omega arith; high = l; each = λ j g h. absurd (omega arith) }

  pub skip_to : (i r : ℕ) → i ≤ r → r ≤ n + 1 → ((j : ℕ) → i ≤ j → j < r → Off j) → Skipped Off n from i → Skipped Off n from r
  skip_to i r l m f a =
      record {
        low = omega (arith, a.low);
        high = m;
        each = λ j g h. elim (dec_le i j) [ yes z ↦ f j z h | no z ↦ a.each j g (lt_of_not-le z) ];
      }

  -- what passes on from each place to the next passes on over all of them
  pub through : (T : ℕ → Type 0) → ((i : ℕ) → i ≤ n → Off i → T i → T (i + 1)) → (r : ℕ) → Skipped Off n from r → T from → T r
  through T f zero a y = subst T (omega (arith, a.low)) y
  through T f (suc r) a y =
      ⊎_elim (λ (z : from ≡ suc r). subst T z y)
      (λ (z : from ≡ suc r → ⊥). subst T (add-one r)
      (f r (omega (arith, a.high)) (a.each r (omega (arith, a.low)) (omega arith))
      (through T f r (record { low = omega (arith, a.low); high = omega (arith, a.high); each = λ j g h. a.each j g (omega arith) }) y)))
      (same? from (suc r))
