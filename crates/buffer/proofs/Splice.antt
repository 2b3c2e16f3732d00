-- The laws of `splice` and `region`: lengths, what a reader finds before, inside and after what was written, and when two writes are one
-- or change places. `splice` stays shut; a proof above cites these. Assumes nothing.
use mathlib.Core.Path.{◌≡◌, refl, sym, ap, ◌∙◌}
use Prim.Native.Nat.{ℕ, ◌+◌, ◌-◌, ◌≤◌, ◌<◌, suc}
use mathlib.Core.List.{List, [], ◌∷◌, ◌++◌, append_assoc, append-nil}
use native.Mathlib.Omega.{arith}
use native.Mathlib.Nat.{add_assoc, add-zero}
use native.Mathlib.Numerals.{add-one}
use lib.ListN.{length, get_or, take, drop, set, length-append, length-take, length-drop, take-append-drop, drop_of_length-le}
use lib.Seq.{drop_at, take_at, take-append-le, drop-append-le, take-take, drop-drop, take-add, set_split, get_or-drop, get_or-take, take-suc, take_all, drop-cons, length-take-le}
use borrow.Rule.Slice.PartMut.{put_mid}
use Rattle.buffer.specs.Splice.{splice, region}

pub splice_is : (s : List ℕ) (o : ℕ) (b : List ℕ) → splice s o b ≡ take o s ++ (b ++ drop (o + length b) s)
unfolding splice
splice_is s o b = refl

pub length_region : (s : List ℕ) (o n : ℕ) → o + n ≤ length s → length (region s o n) ≡ n
length_region s o n h = simp (length-take, length-drop) (omega arith)

-- ---- what a splice leaves as it is, and what it puts

pub splice_nil : (s : List ℕ) (o : ℕ) → splice s o [] ≡ s
unfolding splice
splice_nil s o = simp (add-zero, take-append-drop)

module _ (s : List ℕ) (o : ℕ) (b : List ℕ) (fit : o + length b ≤ length s) where
  pub length_splice : length (splice s o b) ≡ length s
  unfolding splice
  length_splice = simp (length-append, length-take, length-drop) (omega arith)

  head_length : length (take o s) ≡ o
  head_length = length-take-le o s (omega arith)

  front_length : length (take o s ++ b) ≡ o + length b
  front_length = simp (length-append, head_length)

  pub drop_splice : drop (o + length b) (splice s o b) ≡ drop (o + length b) s
  unfolding splice
  drop_splice = rw (← append_assoc (take o s) b (drop (o + length b) s)) (drop_at (take o s ++ b) _ _ front_length)

  pub take_splice : take (o + length b) (splice s o b) ≡ take o s ++ b
  unfolding splice
  take_splice = rw (← append_assoc (take o s) b (drop (o + length b) s)) (take_at (take o s ++ b) _ _ front_length)

  pub take_before : (n : ℕ) → n ≤ o → take n (splice s o b) ≡ take n s
  unfolding splice
  take_before n h =
      let k : n ≤ length (take o s) = omega (arith, head_length) in
      rw (take-append-le n (take o s), take-take n o s)

  pub drop_after : (n : ℕ) → o + length b ≤ n → drop n (splice s o b) ≡ drop n s
  drop_after n h =
      let e : n ≡ (o + length b) + (n - (o + length b)) = omega arith in
      rw (e, ← drop-drop (n - (o + length b)) (o + length b) (splice s o b), drop_splice, drop-drop)

  pub drop_at_splice : drop o (splice s o b) ≡ b ++ drop (o + length b) s
  unfolding splice
  drop_at_splice = drop_at (take o s) _ o head_length

-- a region as a prefix with its own prefix gone
pub region_drop : (s : List ℕ) (o n : ℕ) → o ≤ length s → region s o n ≡ drop o (take (o + n) s)
region_drop s o n h =
    let k : length (take o s) ≡ o = length-take-le o s h in
    rw take-add (sym (drop_at (take o s) _ o k))

-- a region within the first bytes of a list
pub region_take : (s : List ℕ) (k o n : ℕ) → o + n ≤ k → k ≤ length s → region s o n ≡ region (take k s) o n
region_take s k o n h l =
    region_drop s o n (omega arith)
    ∙ ap (drop o) (sym (take-take (o + n) k s h))
    ∙ sym (region_drop (take k s) o n (rw (length-take-le k s l) (omega arith)))

module _ (s : List ℕ) (o : ℕ) (b : List ℕ) (fit : o + length b ≤ length s) where
  -- a region before it, or after it, is as it was; at it, it is b
  pub region_before : (a n : ℕ) → a + n ≤ o → region (splice s o b) a n ≡ region s a n
  region_before a n h =
      let k : a ≤ length (splice s o b) = rw (length_splice s o b fit) (omega arith) in
      let k' : a ≤ length s = omega arith in
      rw (region_drop (splice s o b) a n k, take_before s o b fit (a + n) h, ← region_drop s a n k')

  pub region_after : (a n : ℕ) → o + length b ≤ a → region (splice s o b) a n ≡ region s a n
  region_after a n h = rw (drop_after s o b fit a h)

  pub region_at_lem : region (splice s o b) o (length b) ≡ b
  region_at_lem = rw (drop_at_splice s o b fit) (take_at b _ _ refl)

  -- inside it, it is a region of b
  pub region_inside : (i n : ℕ) → i + n ≤ length b → region (splice s o b) (o + i) n ≡ region b i n
  region_inside i n h =
      let front : i ≤ length b = omega arith in
      let room : n ≤ length (drop i b) = rw length-drop (omega arith) in
      rw (← drop-drop i o (splice s o b), drop_at_splice s o b fit, drop-append-le i b, take-append-le n (drop i b))

  pub get_d_before : (i : ℕ) → i < o → get_or (splice s o b) i 0 ≡ get_or s i 0
  get_d_before i h =
      rw (← get_or-take (suc i) (splice s o b) i 0 (omega arith), ← get_or-take (suc i) s i 0 (omega arith))
      (ap (λ (l : List ℕ). get_or l i 0) (take_before s o b fit (suc i) h))

  pub get_d_after : (i : ℕ) → o + length b ≤ i → get_or (splice s o b) i 0 ≡ get_or s i 0
  get_d_after i h =
      let e : get_or (drop i (splice s o b)) 0 0 ≡ get_or (drop i s) 0 0 = ap (λ (l : List ℕ). get_or l 0 0) (drop_after s o b fit i h) in
      simp (get_or-drop, add-zero) at e

  -- ---- two splices

  -- the second right after the first
  pub splice_next : (a : List ℕ) → splice (splice s o b) (o + length b) a ≡ splice s o (b ++ a)
  splice_next a =
      let k : o + length b ≤ o + length b + length a = omega arith in
      let n : o + length (b ++ a) ≡ o + length b + length a = omega (arith, length-append b a) in
      rw (splice_is (splice s o b), splice_is s o (b ++ a), n, take_splice s o b fit, drop_after s o b fit _ k) (simp append_assoc)

  -- the second over the first, and perhaps more
  pub splice_cover : (a : List ℕ) → length b ≤ length a → splice (splice s o b) o a ≡ splice s o a
  splice_cover a h =
      let k : o + length b ≤ o + length a = omega arith in
      let z : o ≤ o = omega arith in
      rw (splice_is (splice s o b), splice_is s o a, take_before s o b fit o z, drop_after s o b fit _ k)

  -- .. in its place
  pub splice_over : (a : List ℕ) → length a ≡ length b → splice (splice s o b) o a ≡ splice s o a
  splice_over a h = splice_cover a (omega arith)

  -- the second k elements behind the first
  splice_swap : (k : ℕ) (a : List ℕ) → o + length b + k + length a ≤ length s
      → splice (splice s o b) (o + length b + k) a ≡ splice (splice s (o + length b + k) a) o b
  splice_swap k a h =
      let q : ℕ = o + length b in
      let h1 : q ≤ q + k + length a = omega arith in
      let h2 : o ≤ q + k = omega arith in
      let e1 : take (q + k) (splice s o b) ≡ (take o s ++ b) ++ take k (drop q s) = rw (take-add q k (splice s o b), take_splice s o b fit, drop_splice s o b fit) in
      let e2 : drop q (splice s (q + k) a) ≡ take k (drop q s) ++ (a ++ drop (q + k + length a) s) =
      rw (splice_is s (q + k) a, take-add q k s, append_assoc) (drop_at (take q s) _ q (length-take-le q s fit)) in
      rw (splice_is (splice s o b), splice_is (splice s (q + k) a), e1, e2, drop_after s o b fit _ h1, take_before s (q + k) a h o h2) (simp append_assoc)

-- two splices that do not meet, in either sequence
-- what is written over leaves nothing
pub splice_under : (s : List ℕ) (p : ℕ) (b : List ℕ) (o : ℕ) (a : List ℕ) → o ≤ p → p + length b ≤ o + length a → o + length a ≤ length s
    → splice (splice s p b) o a ≡ splice s o a
splice_under s p b o a h k l =
    let fit : p + length b ≤ length s = omega arith in
    rw (splice_is (splice s p b) o a, splice_is s o a, take_before s p b fit o h, drop_after s p b fit (o + length a) k)

pub splice_commute : (s : List ℕ) (o p : ℕ) (b a : List ℕ) → o + length b ≤ p → p + length a ≤ length s
    → splice (splice s o b) p a ≡ splice (splice s p a) o b
splice_commute s o p b a h k =
    let e : p ≡ o + length b + (p - (o + length b)) = omega arith in
    rw e (splice_swap s o b (omega arith) (p - (o + length b)) a (omega arith))

-- the second right before the first
pub splice_prev : (s : List ℕ) (o : ℕ) (b a : List ℕ) → o + length b + length a ≤ length s
    → splice (splice s (o + length b) a) o b ≡ splice s o (b ++ a)
splice_prev s o b a h =
    let k : o ≤ o + length b = omega arith in
    let n : o + length (b ++ a) ≡ o + length b + length a = omega (arith, length-append b a) in
    rw (splice_is (splice s (o + length b) a), splice_is s o (b ++ a), n, take_before s (o + length b) a h o k, drop_at_splice s (o + length b) a h) (simp append_assoc)

-- a region laid over itself
pub splice_self : (s : List ℕ) (o n : ℕ) → o + n ≤ length s → splice s o (region s o n) ≡ s
splice_self s o n h =
    rw (splice_is s o (region s o n), length_region s o n h, ← drop-drop n o s) (simp take-append-drop)

-- ---- elements

pub set_splice : (s : List ℕ) (i v : ℕ) → i < length s → set s i v ≡ splice s i (v ∷ [])
unfolding splice
set_splice s i v h = rw add-one (set_split s i v h)

-- one element more at the end
pub splice_snoc : (s : List ℕ) (o : ℕ) (b : List ℕ) (v : ℕ) → o + length b < length s → set (splice s o b) (o + length b) v ≡ splice s o (b ++ (v ∷ []))
splice_snoc s o b v h =
    let fit : o + length b ≤ length s = omega arith in
    let k : o + length b < length (splice s o b) = rw (length_splice s o b fit) h in
    rw (set_splice (splice s o b) (o + length b) v k, splice_next s o b fit)

-- .. or at the front
pub splice_cons : (s : List ℕ) (o : ℕ) (b : List ℕ) (v : ℕ) → o + 1 + length b ≤ length s → set (splice s (o + 1) b) o v ≡ splice s o (v ∷ b)
splice_cons s o b v h =
    let k : o < length (splice s (o + 1) b) = rw (length_splice s (o + 1) b h) (omega arith) in
    rw (set_splice (splice s (o + 1) b) o v k) (splice_prev s o (v ∷ []) b h)

-- a region one longer, at its end or at its front
pub region_snoc : (s : List ℕ) (o n : ℕ) → o + n < length s → region s o (n + 1) ≡ region s o n ++ (get_or s (o + n) 0 ∷ [])
region_snoc s o n h =
    let k : n < length (drop o s) = rw length-drop (omega arith) in
    rw (add-one, take-suc (drop o s) n 0, get_or-drop)

pub region_cons : (s : List ℕ) (o n : ℕ) → o < length s → region s o (n + 1) ≡ get_or s o 0 ∷ region s (o + 1) n
region_cons s o n h = rw (add-one, add-one, drop-cons s o 0)

-- one element before a splice
pub set_before : (s : List ℕ) (o : ℕ) (b : List ℕ) (i v : ℕ) → i < o → o + length b ≤ length s → set (splice s o b) i v ≡ splice (set s i v) o b
set_before s o b i v h fit =
    let k : i < length (splice s o b) = rw (length_splice s o b fit) (omega arith) in
    rw (set_splice (splice s o b) i v k, set_splice s i v (omega arith)) (sym (splice_commute s i o (v ∷ []) b (omega arith) fit))

-- one element moved
pub set_region : (s : List ℕ) (i j : ℕ) → i < length s → j < length s → set s i (get_or s j 0) ≡ splice s i (region s j 1)
set_region s i j h k = rw (set_splice s i (get_or s j 0) h, region_cons s j 0 k)

-- a splice behind what is dropped
pub drop_before : (s : List ℕ) (k o : ℕ) (b : List ℕ) → k ≤ length s → drop k (splice s (k + o) b) ≡ splice (drop k s) o b
drop_before s k o b h =
    rw (splice_is s (k + o) b, splice_is (drop k s) o b, take-add k o s, append_assoc, drop_at (take k s) _ k (length-take-le k s h), drop-drop, add_assoc)

-- a part of what is spliced, replaced by as many
pub splice_inside : (s : List ℕ) (o : ℕ) (a d e z : List ℕ) → length e ≡ length d → o + length a + length d + length z ≤ length s
    → splice (splice s o (a ++ (d ++ z))) (o + length a) e ≡ splice s o (a ++ (e ++ z))
splice_inside s o a d e z q h =
    let fit : o + length a ≤ length s = omega arith in
    let t : List ℕ = splice s o a in
    let l : length t ≡ length s = length_splice s o a fit in
    let td : List ℕ = splice t (o + length a) d in
    let ld : length td ≡ length t = length_splice t (o + length a) d (omega arith) in
    let n : o + length a + length d ≡ o + length a + length e = omega arith in
    let before : splice s o (a ++ (d ++ z)) ≡ splice td (o + length a + length d) z =
    sym (splice_next s o a fit (d ++ z)) ∙ sym (splice_next t (o + length a) d (omega arith) z) in
    let after : splice (splice t (o + length a) e) (o + length a + length e) z ≡ splice s o (a ++ (e ++ z)) =
    splice_next t (o + length a) e (omega arith) z ∙ splice_next s o a fit (e ++ z) in
    let apart : splice (splice td (o + length a + length e) z) (o + length a) e ≡ splice (splice td (o + length a) e) (o + length a + length e) z =
    sym (splice_commute td (o + length a) (o + length a + length e) e z (omega arith) (omega arith)) in
    rw (before, n, apart, splice_over t (o + length a) d (omega arith) e q) after

-- what stands before a splice, taken into it
pub splice_from : (s : List ℕ) (o p : ℕ) (y : List ℕ) → o ≤ p → p + length y ≤ length s → splice s p y ≡ splice s o (region s o (p - o) ++ y)
splice_from s o p y h k =
    let l : length (region s o (p - o)) ≡ p - o = length_region s o (p - o) (omega arith) in
    let e : o + length (region s o (p - o)) ≡ p = omega arith in
    let q : splice (splice s o (region s o (p - o))) (o + length (region s o (p - o))) y ≡ splice s o (region s o (p - o) ++ y) =
    splice_next s o (region s o (p - o)) (omega arith) y in
    rw (splice_self s o (p - o) (omega arith), e) at q

-- what is left of the whole after a part of it was lent to a writer
pub splice_part : (s : List ℕ) (a n : ℕ) (y : List ℕ) → length y ≡ n → put_mid a n s y ≡ splice s a y
splice_part s a n y e = rw (splice_is s a y, drop-drop n a s, e)

-- a region in two parts
pub region_add : (s : List ℕ) (o m n : ℕ) → region s o (m + n) ≡ region s o m ++ region s (o + m) n
region_add s o m n = rw (take-add m n (drop o s), drop-drop m o s)

-- all of a list laid over
pub splice_whole : (s b : List ℕ) → length b ≡ length s → splice s 0 b ≡ b
splice_whole s b h =
    let all : length s ≤ 0 + length b = omega arith in
    rw (splice_is s 0 b, drop_of_length-le s all, append-nil b)

-- a write after others, all side by side
pub splice_then : (s s₀ : List ℕ) (o : ℕ) (b : List ℕ) (p : ℕ) (a : List ℕ) → s ≡ splice s₀ o b → p ≡ o + length b → o + length b ≤ length s₀
    → splice s p a ≡ splice s₀ o (b ++ a)
splice_then s s₀ o b p a e q h = rw (e, q) (splice_next s₀ o b h a)

-- the new goes in front of what has moved on
pub splice_front : (s s₁ : List ℕ) (o p : ℕ) (b t : List ℕ) → s₁ ≡ splice s p t → p ≡ o + length b → p + length t ≤ length s → splice s₁ o b ≡ splice s o (b ++ t)
splice_front s s₁ o p b t e q h = rw (e, q) (splice_prev s o b t (omega arith))

-- an insertion into what is spliced: what stood behind its place is written again behind it
pub splice_insert : (s s₁ : List ℕ) (o p n : ℕ) (x l y : List ℕ) → s₁ ≡ splice s o (x ++ y) → p ≡ o + length x → n ≡ length y
    → o + length x + length l + length y ≤ length s → splice s₁ p (l ++ region s₁ p n) ≡ splice s o (x ++ (l ++ y))
splice_insert s s₁ o p n x l y e q m h =
    let f : o + length (x ++ y) ≤ length s = omega (arith, length-append x y) in
    let i : length x + length y ≤ length (x ++ y) = omega (arith, length-append x y) in
    let k : length (splice s o (x ++ y)) ≡ length s = length_splice s o (x ++ y) f in
    let behind : region (splice s o (x ++ y)) (o + length x) (length y) ≡ y =
    region_inside s o (x ++ y) f (length x) (length y) i ∙ rw (drop_at x y (length x) refl) (take_all (length y) y (omega arith)) in
    let z : 0 + length x ≤ length (x ++ y) = omega (arith, length-append x y) in
    let d : o + length x - o ≡ length x = omega arith in
    let before : region (splice s o (x ++ y)) o (length x) ≡ x = rw add-zero at (region_inside s o (x ++ y) f 0 (length x) z) ∙ take_at x y (length x) refl in
    let from : splice (splice s o (x ++ y)) (o + length x) (l ++ y) ≡ splice (splice s o (x ++ y)) o (region (splice s o (x ++ y)) o (o + length x - o) ++ (l ++ y)) =
    splice_from (splice s o (x ++ y)) o (o + length x) (l ++ y) (omega arith) (omega (arith, length-append l y)) in
    rw (e, q, m, behind, from, d, before) (splice_cover s o (x ++ y) f (x ++ (l ++ y)) (omega (arith, length-append x y, length-append x (l ++ y), length-append l y)))
