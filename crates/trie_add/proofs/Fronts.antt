-- The fronts of a new parent and of the node below it, side by side. Assumes nothing.
use mathlib.Core.Path.{◌≡◌}
use Prim.Native.Nat.{ℕ, ◌+◌, ◌≤◌}
use mathlib.Core.List.{List, [], ◌∷◌, ◌++◌}
use native.Mathlib.Omega.{arith}
use native.Mathlib.Nat.{sub-zero}
use lib.ListN.{length, take, drop, length-append, length-drop}
use lib.Seq.{length-take-le}
use Rattle.buffer.specs.Splice.{splice}
use Rattle.buffer.proofs.Splice.{region_at_lem}
use Rattle.trie_read.specs.Shape.{part}
use Rattle.trie_read.specs.Heads.{front}
use Rattle.trie_read.proofs.Node.{length_front}

-- the parent takes a and b bytes of the strings
unfoldable pub fronts : ℕ → ℕ → ℕ → ℕ → List ℕ → List ℕ → ℕ → ℕ → List ℕ
fronts a b up size nv np kind own = front up (take a nv ∷ take b np ∷ []) size ++ front kind (drop a nv ∷ drop b np ∷ []) own

pub length_fronts : (a b up size : ℕ) (nv np : List ℕ) (kind own : ℕ) → a ≤ length nv → b ≤ length np → length (fronts a b up size nv np kind own) ≡ 14 + length nv + length np
unfolding fronts
length_fronts a b up size nv np kind own h k =
    omega (arith, length-append (front up (take a nv ∷ take b np ∷ []) size) (front kind (drop a nv ∷ drop b np ∷ []) own), length_front up (take a nv ∷ take b np ∷ []) size, length_front kind (drop a nv ∷ drop b np ∷ []) own, length-take-le a nv h, length-take-le b np k, length-drop a nv, length-drop b np)

-- what was written to the beginning of an array
pub written : (z f : List ℕ) (n : ℕ) → n ≡ length f → length f ≤ length z → part 0 n (splice z 0 f) ≡ f
written z f n e h = rw (sub-zero n, e) (region_at_lem z 0 f (omega arith))
