-- What the builder leaves, and bytes laid over it. Assumes nothing.
use mathlib.Core.Path.{◌≡◌, refl, sym, ap, ◌∙◌}
use Prim.Native.Nat.{ℕ, zero, suc, ◌+◌, ◌*◌, ◌-◌, ◌≤◌, ◌<◌}
use mathlib.Core.List.{List, [], ◌∷◌, ◌++◌, append_assoc}
use native.Mathlib.Omega.{arith}
use lib.ListN.{length, get_or, take, drop, length-append, length-drop}
use lib.Seq.{ext_get_or, get_or-drop, take-add, take-append-le, drop-append-le}
use lib.Dec.{ltb}
use mathlib.Core.Bool.{Bool, true, false}
use borrow.Author.Tests.{ltb-true, ltb-false}
use Rattle.trie_sets.specs.Partition.{Outside}
use Rattle.buffer.specs.Splice.{splice, region}
use Rattle.buffer.proofs.Splice.{splice_is, length_region, length_splice, region_at_lem, get_d_before, get_d_after}
use borrow.Rule.Slice.PartMut.{put_mid}
use Rattle.trie_build.proofs.Wrote.{part_splice}
use Rattle.entries.specs.Slots.{slot_size}
use Rattle.trie_build.specs.Build.{Built}
use Rattle.trie_sets.proofs.Slotted.{region_get}

-- equal bytes are equal stretches
pub region_same : (s s₀ : List ℕ) (a m : ℕ) → length s ≡ length s₀ → a + m ≤ length s₀ → ((i : ℕ) → a ≤ i → i < a + m → get_or s i 0 ≡ get_or s₀ i 0)
    → region s a m ≡ region s₀ a m
region_same s s₀ a m l h f =
    let e : length (region s a m) ≡ m = length_region s a m (omega arith) in
    let e₀ : length (region s₀ a m) ≡ m = length_region s₀ a m h in
    ext_get_or 0 (region s a m) (region s₀ a m) (omega arith)
    (λ i u. region_get s a m i (omega arith) ∙ f (a + i) (omega arith) (omega arith) ∙ sym (region_get s₀ a m i (omega arith)))

-- a write leaves what is outside it
get_outside : (s : List ℕ) (o : ℕ) (b : List ℕ) → o + length b ≤ length s → (i : ℕ) → Outside i o (length b) → get_or (splice s o b) i 0 ≡ get_or s i 0
get_outside s o b fit i h = go (ltb i o) refl (ltb i (o + length b)) refl
  where
    go : (w : Bool) → ltb i o ≡ w → (v : Bool) → ltb i (o + length b) ≡ v → get_or (splice s o b) i 0 ≡ get_or s i 0
    go true e v f = get_d_before s o b fit i (ltb-true i o e)
    go false e true f = absurd (h (ltb-false i o e) (ltb-true i (o + length b) f))
    go false e false f = get_d_after s o b fit i (ltb-false i (o + length b) f)

-- ---- the bytes of a slice whose parts were lent

-- a front and what is behind it, each as it was at place i
both_same : (a a' b b' : List ℕ) → length a' ≡ length a → (i : ℕ) → (i < length a → get_or a' i 0 ≡ get_or a i 0)
    → ((j : ℕ) → i ≡ length a + j → get_or b' j 0 ≡ get_or b j 0) → get_or (a' ++ b') i 0 ≡ get_or (a ++ b) i 0
both_same [] [] b b' e i f g = g i (omega arith)
both_same [] (y ∷ a') b b' e i f g = absurd (omega arith)
both_same (x ∷ a) [] b b' e i f g = absurd (omega arith)
both_same (x ∷ a) (y ∷ a') b b' e zero f g = f (omega arith)
both_same (x ∷ a) (y ∷ a') b b' e (suc i) f g = both_same a a' b b' (omega arith) i (λ h. f (omega arith)) (λ j h. g j (omega arith))

-- behind the first m, which are new
behind_same : (x y : List ℕ) (m : ℕ) → length y ≡ m → m ≤ length x → (j : ℕ) → m ≤ j → get_or (y ++ drop m x) j 0 ≡ get_or x j 0
behind_same x [] m e l j h = let z : m ≡ 0 = omega arith in rw z
behind_same [] (y ∷ ys) m e l j h = absurd (omega arith)
behind_same (x ∷ xs) (y ∷ ys) zero e l j h = absurd (omega arith)
behind_same (x ∷ xs) (y ∷ ys) (suc m) e l zero h = absurd (omega arith)
behind_same (x ∷ xs) (y ∷ ys) (suc m) e l (suc j) h = behind_same xs ys m (omega arith) (omega arith) j (omega arith)

-- a place outside a stretch and not before it is behind it
far : (i at n j : ℕ) → Outside i at n → i ≡ at + j → n ≤ j
far i at n j o e = go (ltb j n) refl
  where
    go : (w : Bool) → ltb j n ≡ w → n ≤ j
    go true q = let l = ltb-true j n q in absurd (o (omega arith) (omega arith))
    go false q = ltb-false j n q

region_front : (x y : List ℕ) (o n : ℕ) → o + n ≤ length x → region (x ++ y) o n ≡ region x o n
region_front x y o n h = rw (drop-append-le o x y (omega arith), take-append-le n (drop o x) y (rw length-drop (omega arith)))

-- THE LEVEL, where its room, its slots and its scratch stretch were lent
pub level_built : (s : List ℕ) (out slots scratch n : ℕ) (b front behind room set : List ℕ) → s ≡ front ++ behind → length front ≡ scratch → front ≡ room ++ set → length room ≡ slots
    → out + length b ≤ slots → n * slot_size ≤ length set → n * slot_size ≤ length behind → (room' slots' scratch' : List ℕ)
    → room' ≡ splice (region room out (length room - out)) 0 b → length slots' ≡ n * slot_size → length scratch' ≡ n * slot_size
    → Built s out slots scratch n b ((put_mid out (length room - out) room room' ++ (slots' ++ drop (n * slot_size) set)) ++ (scratch' ++ drop (n * slot_size) behind))
level_built s out slots scratch n b front behind room set e lf q lr fits more rest room' slots' scratch' w ls lc =
    let r : List ℕ = put_mid out (length room - out) room room' in
    let ri : r ≡ splice room out b = rw w (part_splice room out (length room - out) b (omega arith) (omega arith)) in
    let long : length r ≡ length room = ap length ri ∙ length_splice room out b (omega arith) in
    let t : List ℕ = slots' ++ drop (n * slot_size) set in
    let lt : length t ≡ length set = length-append slots' (drop (n * slot_size) set) ∙ omega (arith, length-drop (n * slot_size) set) in
    let c : List ℕ = scratch' ++ drop (n * slot_size) behind in
    let lb : length c ≡ length behind = length-append scratch' (drop (n * slot_size) behind) ∙ omega (arith, length-drop (n * slot_size) behind) in
    let f : List ℕ = r ++ t in
    let ff : length f ≡ length front = length-append r t ∙ omega (arith, ap length q ∙ length-append room set) in
    let la = length-append r t in
    let el : length s ≡ length front + length behind = ap length e ∙ length-append front behind in
    record {
      long = length-append f c ∙ omega arith;
      wrote = region_front f c out (length b) (omega arith) ∙ region_front r t out (length b) (omega arith) ∙ rw ri (region_at_lem room out b (omega arith));
      kept = λ i x y z.
          rw e
          (both_same front f behind c ff i
          (λ h. rw q (both_same room r set t long i (λ k. rw ri (get_outside room out b (omega arith) i x)) (λ j k. behind_same set slots' (n * slot_size) ls more j (far i slots (n * slot_size) j y (omega arith)))))
          (λ j k. behind_same behind scratch' (n * slot_size) lc rest j (far i scratch (n * slot_size) j z (omega arith))));
    }

-- FOR CALLERS: bytes z laid behind the trie, over slots and scratch, decide every byte
module _ (s s' : List ℕ) (out slots scratch n : ℕ) (b z : List ℕ) (a : Built s out slots scratch n b s') (h : out + length b ≤ slots) (k : slots + n * slot_size ≤ scratch)
    (l : scratch + n * slot_size ≤ out + length b + length z) (m : out + length b + length z ≤ length s) where
  abbrev stop : ℕ
  stop = out + length b + length z

  built_before : take out s' ≡ take out s
  built_before = region_same s' s 0 out a.long (omega arith) (λ i x y. a.kept i (λ u v. omega arith) (λ u v. omega arith) (λ u v. omega arith))

  built_behind : drop stop s' ≡ drop stop s
  built_behind =
      ext_get_or 0 (drop stop s') (drop stop s) (length-drop stop s' ∙ ap (λ (j : ℕ). j - stop) a.long ∙ sym (length-drop stop s))
      (λ i x.
      get_or-drop stop s' i 0
      ∙ a.kept (stop + i) (λ u v. omega arith) (λ u v. omega arith) (λ u v. omega arith) ∙ sym (get_or-drop stop s i 0))

  pub built_over : splice s' (out + length b) z ≡ splice s out (b ++ z)
  built_over =
      let e : out + length (b ++ z) ≡ stop = omega (arith, length-append b z) in
      rw (splice_is s' (out + length b) z, splice_is s out (b ++ z), e, take-add out (length b) s', built_before, a.wrote, built_behind) (simp append_assoc)
