-- The bytes of an empty store: M, L, τ, and zeros. Assumes nothing.
use mathlib.Core.Path.{◌≡◌, refl, sym, ap, ◌∙◌}
use Prim.Native.Nat.{ℕ, zero, suc, ◌+◌, ◌-◌, ◌*◌, ◌^◌, ◌≤◌}
use mathlib.Core.List.{List, [], ◌∷◌, ◌++◌, append_assoc}
use native.Mathlib.Omega.{arith}
use lib.ListN.{length, replicate, length-append, length-replicate}
use lib.Seq.{drop-nil, take-nil}
use native.Mathlib.Nat.{zero-add, suc-add}
use Rattle.buffer.specs.Splice.{splice}
use Rattle.buffer.specs.Numbers.{bytes_of}
use Rattle.buffer.proofs.Digits.{length_bytes_of}
use Rattle.buffer.proofs.Splice.{splice_inside}
use Rattle.trie_theory.specs.Forest.{none}
use Rattle.rows.specs.Entry.{Entry}
use Rattle.book.specs.Front.{front_bytes, front_room, entry_room, need}
use Rattle.book.specs.Digits.{quotient, small, level, level_start, level_size}
use Rattle.book.specs.Tries.{tries}
use Rattle.book.specs.Book.{fresh, front}
use Rattle.book.specs.Image.{padded, regions, store_of, image}
use Rattle.book.proofs.Front.{length_front}
use Rattle.book.proofs.Additions.{small_empty, level_empty}
use Rattle.book.proofs.Writes.{regions_empty}

zeros : ℕ → List ℕ
zeros n = replicate n 0

zeros_more : (a b : ℕ) → zeros a ++ zeros b ≡ zeros (a + b)
unfolding zeros
zeros_more zero b = rw (zero-add b)
zeros_more (suc a) b = rw (suc-add a b) (ap (◌∷◌ 0) (zeros_more a b))

four_zeros : bytes_of 4 0 ≡ zeros 4
unfolding bytes_of zeros
four_zeros = refl

-- one stretch of what was written, written anew
patched : (s s₁ s₂ a d e z : List ℕ) (p : ℕ) → s₁ ≡ splice s 0 (a ++ (d ++ z)) → p ≡ length a → length e ≡ length d
    → length a + length d + length z ≤ length s → s₂ ≡ splice s₁ p e → s₂ ≡ splice s 0 (a ++ (e ++ z))
patched s s₁ s₂ a d e z p h q l f g =
    let x : p ≡ 0 + length a = omega arith in
    g ∙ rw (h, x) (splice_inside s 0 a d e z l (omega arith))

module _ (m l t : ℕ) where
  no_small : (tries (fresh m l t)).small ≡ none
  unfolding tries small
  no_small = rw (drop-nil {A = Entry} (m * quotient m [])) small_empty

  no_level : (i : ℕ) → (tries (fresh m l t)).level i ≡ none
  unfolding tries level
  no_level i = rw (drop-nil {A = Entry} (level_start m i []), take-nil {A = Entry} (level_size m i [])) (level_empty t)

  pub image_fresh : image (fresh m l t) ≡ bytes_of 4 m ++ (bytes_of 4 l ++ (bytes_of 4 t ++ replicate (need m l - 12) 0))
  unfolding image store_of padded front_bytes need zeros
  image_fresh =
      let r : ℕ = entry_room * m * 2 ^ l in
      let f = front_bytes (front (fresh m l t)) in
      let e : regions m l (tries (fresh m l t)) ≡ zeros r = regions_empty m l (tries (fresh m l t)) no_small (λ i h. no_level i) in
      let n : front_room - length f ≡ 4080 = ap (λ (k : ℕ). front_room - k) (length_front (front (fresh m l t))) in
      let q : 4 + (4080 + r) ≡ entry_room * m * 2 ^ l + front_room - 12 = omega arith in
      let z = zeros (4080 + r) in
      let apart : f ++ z ≡ bytes_of 4 m ++ (bytes_of 4 l ++ (bytes_of 4 t ++ (bytes_of 4 0 ++ z))) = simp append_assoc in
      rw (e, n)
      (append_assoc f (zeros 4080) (zeros r) ∙ ap (λ (z : List ℕ). f ++ z) (zeros_more 4080 r)
      ∙ apart
      ∙ ap (λ (z : List ℕ). bytes_of 4 m ++ (bytes_of 4 l ++ (bytes_of 4 t ++ z))) (ap (λ (z : List ℕ). z ++ zeros (4080 + r)) four_zeros ∙ zeros_more 4 (4080 + r) ∙ ap zeros q))

  -- written over zeros, one number after another
  pub written : (s s₁ s₂ s₃ s₄ : List ℕ) (n : ℕ) → n ≡ need m l → n ≤ length s → s₁ ≡ splice s 0 (replicate n 0) → s₂ ≡ splice s₁ 0 (bytes_of 4 m)
      → s₃ ≡ splice s₂ 4 (bytes_of 4 l) → s₄ ≡ splice s₃ 8 (bytes_of 4 t) → s₄ ≡ splice s 0 (image (fresh m l t))
  unfolding need zeros
  written s s₁ s₂ s₃ s₄ n e h a b c d =
      let M = bytes_of 4 m in
      let L = bytes_of 4 l in
      let T = bytes_of 4 t in
      let k = n - 12 in
      let v : List ℕ = zeros 4 in
      let w = zeros k in
      let lM = length_bytes_of 4 m in
      let lL = length_bytes_of 4 l in
      let lT = length_bytes_of 4 t in
      let lw : length w ≡ k = length-replicate {A = ℕ} k 0 in
      let lv : length v ≡ 4 = refl in
      let q : n ≡ 4 + (4 + (4 + k)) = omega arith in
      let all : zeros n ≡ v ++ (v ++ (v ++ w)) =
      ap zeros q ∙ sym (ap (λ (y : List ℕ). v ++ y) (ap (λ (y : List ℕ). v ++ y) (zeros_more 4 k) ∙ zeros_more 4 (4 + k)) ∙ zeros_more 4 (4 + (4 + k))) in
      let one = patched s s₁ s₂ [] v M (v ++ (v ++ w)) 0 (a ∙ ap (splice s 0) all) refl lM (omega (arith, length-append v (v ++ (v ++ w)), length-append v (v ++ w), length-append v w, lw, lv)) b in
      let two = patched s s₂ s₃ M v L (v ++ w) 4 one (sym lM) lL (omega (arith, length-append v w, lw, lv, lM)) c in
      let three = patched s s₃ s₄ (M ++ L) v T w 8 (two ∙ ap (splice s 0) (sym (append_assoc M L (v ++ w)))) (omega (arith, length-append M L, lM, lL)) lT (omega (arith, length-append M L, lw, lv, lM, lL)) d in
      three ∙ ap (splice s 0) (append_assoc M L (T ++ w)) ∙ ap (splice s 0) (sym (rw (← e) at image_fresh))

pub need_least : (m l n : ℕ) → n ≡ need m l → front_room ≤ n
unfolding need
need_least m l n e = omega arith
