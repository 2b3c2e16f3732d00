-- An insertion: what stood there moves on by as many bytes as are then written. Assumes nothing.
use mathlib.Core.Path.{◌≡◌, ◌∙◌}
use Prim.Native.Nat.{ℕ, ◌+◌, ◌≤◌}
use mathlib.Core.List.{List, ◌++◌}
use native.Mathlib.Omega.{arith}
use lib.ListN.{length}
use Rattle.buffer.specs.Splice.{splice, region}
use Rattle.buffer.proofs.Splice.{splice_front, length_region}

pub inserted : (s s₁ s₂ : List ℕ) (at n from k : ℕ) (new : List ℕ) → s₁ ≡ splice s (at + n) (region s from k) → s₂ ≡ splice s₁ at new
    → length new ≡ n → from + k ≤ length s → at + n + k ≤ length s → s₂ ≡ splice s at (new ++ region s from k)
inserted s s₁ s₂ at n from k new moved written l h f =
    written ∙ splice_front s s₁ at (at + n) new (region s from k) moved (omega arith) (omega (arith, length_region s from k h))
