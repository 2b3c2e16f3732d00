-- The bytes that hex digits spell, two by two. Assumes nothing.
use mathlib.Core.Path.{◌≡◌, refl, subst, ap, ◌∙◌}
use mathlib.Core.List.{List, [], ◌∷◌}
use Prim.Native.Nat.{ℕ, zero, suc, ◌+◌, ◌-◌, ◌*◌, ◌<◌}
use native.Mathlib.Omega.{arith}
use lib.ListN.{length, get_or}
use denote.Param.Members.{Mut}
use Rattle.std.specs.Fn.{Called}
use Rattle.std.specs.Array.{IsFromFnResultFrom}
use Rattle.linefields.specs.Fields.{hex_value, unhex}

pub length_unhex : (x : List ℕ) (i : ℕ) → length x ≡ 2 * i → length (unhex x) ≡ i
unfolding unhex
length_unhex [] i h = omega arith
length_unhex (p ∷ []) i h = absurd (omega arith)
length_unhex (p ∷ q ∷ x) i h = omega (arith, length_unhex x (i - 1) (omega arith))

pub unhex_each : (s out : List ℕ) → length s ≡ 2 * length out
    → ((i : ℕ) → i < length out → get_or out i 0 ≡ hex_value (get_or s (2 * i) 0) * 16 + hex_value (get_or s (2 * i + 1) 0)) → out ≡ unhex s
unfolding unhex
unhex_each [] [] h f = refl
unhex_each [] (x ∷ out) h f = absurd (omega arith)
unhex_each (a ∷ []) [] h f = absurd (omega arith)
unhex_each (a ∷ []) (x ∷ out) h f = absurd (omega arith)
unhex_each (a ∷ b ∷ s) [] h f = absurd (omega arith)
unhex_each (a ∷ b ∷ s) (x ∷ out) h f =
    let two : (i : ℕ) → 2 * suc i ≡ suc (suc (2 * i)) = λ i. omega arith in
    let low : (i : ℕ) → suc (suc (2 * i)) + 1 ≡ suc (suc (2 * i + 1)) = λ i. omega arith in
    ap (λ (y : ℕ). y ∷ out) (f 0 (omega arith)) ∙ ap (λ (l : List ℕ). (hex_value a * 16 + hex_value b) ∷ l) (unhex_each s out (omega arith) (λ i k. rw (two i, low i) at (f (suc i) (omega arith))))

-- what `array::from_fn` makes of calls that change nothing
pub made : {F : Type 0} (g : Mut F (ℕ × Unit {0}) ℕ) (f : F) (h : ℕ → ℕ) → ((i y : ℕ) (q : F) → Called g f (i, tt) y q → (q ≡ f) × (y ≡ h i))
    → (out : List ℕ) (i n k : ℕ) → IsFromFnResultFrom g f out i n → k < n → get_or out (i + k) 0 ≡ h (i + k)
made g f h call out i zero k e l = absurd (omega arith)
made {F} g f h call out i (suc n) zero e l =
    let same : i + 0 ≡ i = omega arith in
    rw same (e.2.1 0 ∙ (call i e.1 e.0 e.3).1)
made {F} g f h call out i (suc n) (suc k) e l =
    let next : i + suc k ≡ i + 1 + k = omega arith in
    rw next (made g f h call out (i + 1) n k (subst (λ (q : F). IsFromFnResultFrom g q out (i + 1) n) (call i e.1 e.0 e.3).0 e.4) (omega arith))
