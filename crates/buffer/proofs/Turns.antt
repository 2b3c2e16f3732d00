-- One turn of each loop that writes a slice: what the slice is after one element more. Assumes nothing.
use mathlib.Core.Path.{◌≡◌, ap, ◌∙◌}
use Prim.Native.Nat.{ℕ, ◌+◌, ◌-◌, ◌≤◌, ◌<◌}
use mathlib.Core.List.{List, [], ◌∷◌, ◌++◌, append_assoc}
use native.Mathlib.Omega.{arith}
use lib.ListN.{length, set}
use Rattle.std.specs.List.{copy_within}
use Rattle.buffer.specs.Splice.{splice, region}
use Rattle.buffer.proofs.Splice.{region_before, region_after, region_add, splice_is, splice_next, splice_prev, length_splice, length_region, set_splice, splice_snoc, splice_cons}

pub grow : (s s₀ : List ℕ) (o i : ℕ) (b b' : List ℕ) (v : ℕ) → s ≡ splice s₀ o b → length b ≡ i → o + i < length s₀ → b ++ (v ∷ []) ≡ b'
    → set s (o + i) v ≡ splice s₀ o b'
grow s s₀ o i b b' v e l h q = rw (e, ← l, ← q) (splice_snoc s₀ o b v (rw l h))

pub grow_front : (s s₀ : List ℕ) (o : ℕ) (b : List ℕ) (v : ℕ) → s ≡ splice s₀ (o + 1) b → o + 1 + length b ≤ length s₀
    → set s o v ≡ splice s₀ o (v ∷ b)
grow_front s s₀ o b v e h = rw e (splice_cons s₀ o b v h)

-- std's copy within a slice
pub copied_within : (s : List ℕ) (from to n : ℕ) → from + n ≤ length s → copy_within s from (from + n) to ≡ splice s to (region s from n)
copied_within s from to n h =
    let l : length (region s from n) ≡ n = length_region s from n h in
    let e : from + n - from ≡ n = omega arith in
    rw (splice_is, l, e, append_assoc)

-- k bytes more of a move towards the end
pub up_turn : (s s₀ : List ℕ) (from to n i k : ℕ) → s ≡ splice s₀ (to + i) (region s₀ (from + i) (n - i)) → from ≤ to → to + n ≤ length s₀ → i ≤ n → k ≤ i
    → splice s (to + (i - k)) (region s (from + (i - k)) k) ≡ splice s₀ (to + (i - k)) (region s₀ (from + (i - k)) (n - (i - k)))
up_turn s s₀ from to n i k e h room le few =
    let l : length (region s₀ (from + i) (n - i)) ≡ n - i = length_region s₀ (from + i) (n - i) (omega arith) in
    let r : region s (from + (i - k)) k ≡ region s₀ (from + (i - k)) k = rw e (region_before s₀ (to + i) (region s₀ (from + i) (n - i)) (omega arith) (from + (i - k)) k (omega arith)) in
    let lr : length (region s₀ (from + (i - k)) k) ≡ k = length_region s₀ (from + (i - k)) k (omega arith) in
    let e1 : to + i ≡ to + (i - k) + length (region s₀ (from + (i - k)) k) = omega arith in
    let e2 : n - (i - k) ≡ k + (n - i) = omega arith in
    let e3 : from + (i - k) + k ≡ from + i = omega arith in
    rw (r, e, e1, e2, region_add s₀ (from + (i - k)) k (n - i), e3)
    (splice_prev s₀ (to + (i - k)) (region s₀ (from + (i - k)) k) (region s₀ (from + i) (n - i)) (omega arith))

-- a move in two parts: towards the front the first goes first, towards the end the last
pub down_parts : (s : List ℕ) (from to k n : ℕ) → to ≤ from → k ≤ n → from + n ≤ length s
    → copy_within (copy_within s from (from + k) to) (from + k) (from + n) (to + k) ≡ splice s to (region s from n)
down_parts s from to k n h le room =
    let e : from + n ≡ from + k + (n - k) = omega arith in
    let m : n ≡ k + (n - k) = omega arith in
    let l : length (region s from k) ≡ k = length_region s from k (omega arith) in
    let fit : to + length (region s from k) ≤ length s = omega arith in
    let ls : length (splice s to (region s from k)) ≡ length s = length_splice s to (region s from k) fit in
    let next : splice (splice s to (region s from k)) (to + k) (region s (from + k) (n - k)) ≡ splice s to (region s from k ++ region s (from + k) (n - k)) =
    rw l at (splice_next s to (region s from k) fit (region s (from + k) (n - k))) in
    let all : region s from n ≡ region s from k ++ region s (from + k) (n - k) = ap (region s from) m ∙ region_add s from k (n - k) in
    rw (copied_within s from to k (omega arith), e, copied_within (splice s to (region s from k)) (from + k) (to + k) (n - k) (omega arith), region_after s to (region s from k) fit (from + k) (n - k) (omega arith), next, all)

pub up_parts : (s : List ℕ) (from to k n : ℕ) → from ≤ to → k ≤ n → to + n ≤ length s
    → splice (splice s (to + k) (region s (from + k) (n - k))) to (region (splice s (to + k) (region s (from + k) (n - k))) from k) ≡ splice s to (region s from n)
up_parts s from to k n h le room =
    let m : n ≡ k + (n - k) = omega arith in
    let l : length (region s (from + k) (n - k)) ≡ n - k = length_region s (from + k) (n - k) (omega arith) in
    let lk : length (region s from k) ≡ k = length_region s from k (omega arith) in
    let fit : to + k + length (region s (from + k) (n - k)) ≤ length s = omega arith in
    let prev : splice (splice s (to + k) (region s (from + k) (n - k))) to (region s from k) ≡ splice s to (region s from k ++ region s (from + k) (n - k)) =
    rw lk at (splice_prev s to (region s from k) (region s (from + k) (n - k)) (omega arith)) in
    let all : region s from n ≡ region s from k ++ region s (from + k) (n - k) = ap (region s from) m ∙ region_add s from k (n - k) in
    rw (region_before s (to + k) (region s (from + k) (n - k)) fit from k (omega arith), prev, all)

-- two, three and four elements, one by one
pub set_2 : (s : List ℕ) (o a b : ℕ) → o + 2 ≤ length s → set (set s o a) (o + 1) b ≡ splice s o (a ∷ b ∷ [])
set_2 s o a b h = rw (set_splice s o a (omega arith), splice_snoc s o (a ∷ []) b (omega arith))

pub set_3 : (s : List ℕ) (o a b c : ℕ) → o + 3 ≤ length s → set (set (set s o a) (o + 1) b) (o + 2) c ≡ splice s o (a ∷ b ∷ c ∷ [])
set_3 s o a b c h = rw (set_2 s o a b (omega arith), splice_snoc s o (a ∷ b ∷ []) c (omega arith))

pub set_4 : (s : List ℕ) (o a b c d : ℕ) → o + 4 ≤ length s
    → set (set (set (set s o a) (o + 1) b) (o + 2) c) (o + 3) d ≡ splice s o (a ∷ b ∷ c ∷ d ∷ [])
set_4 s o a b c d h =
    rw (set_3 s o a b c (omega arith), splice_snoc s o (a ∷ b ∷ c ∷ []) d (omega arith))
