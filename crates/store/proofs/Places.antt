-- The regions of a store, counted as its tries are. Assumes nothing.
use Prim.Native.Nat.{ℕ, zero, suc, ◌+◌, ◌*◌, ◌-◌, ◌^◌, ◌≤◌}
use mathlib.Core.Path.{◌≡◌, refl, sym, ap, ap₂, subst, ◌∙◌}
use mathlib.Core.List.{List, [], ◌∷◌, ◌++◌, append_assoc}
use native.Mathlib.Omega.{arith}
use native.Mathlib.Nat.{mul_assoc, mul-le-mul_left, mul-one, pow-suc}
use lib.Pow.{pow_pos, pow_mono}
use lib.ListN.{length, take, drop, replicate, take-append-drop}
use lib.Seq.{take_at}
use Rattle.buffer.specs.Lists.{All, nil, cons}
use Rattle.buffer.specs.Splice.{region}
use Rattle.trie_theory.specs.Forest.{Key, Forest, keys}
use Rattle.trie_theory.specs.Dimensions.{root}
use Rattle.trie_theory.specs.Sound.{Sound}
use Rattle.trie_theory.specs.Entries as Key
use Rattle.trie_theory.specs.Encode.{Regular, WholeReference, encode}
use Rattle.trie_theory.proofs.Encode.{sound_regular}
use Rattle.trie_read.specs.Shape.{part}
use Rattle.trie_read.proofs.Stretch.{length_part}
use Rattle.book.specs.Front.{Front, entry_room, need}
use Rattle.book.specs.Tries.{Tries, every}
use Rattle.book.specs.Image.{padded, Holds}
use Rattle.book.specs.Good.{Good, GoodTries}
use Rattle.book.proofs.Image.{Fit}
use Rattle.book.proofs.Regions.{holds_small, holds_level}
use Rattle.store.specs.Parts.{region_at, region_size, numbered, up_to, PartOf}

-- ---- where they lie

pub region_within : (m l k : ℕ) → k ≤ l → region_at m k + region_size m k ≤ need m l
unfolding need
region_within m l zero h =
    let p : entry_room * m * 1 ≤ entry_room * m * 2 ^ l = mul-le-mul_left (entry_room * m) (pow_pos l) in
    omega (arith, mul-one (entry_room * m))
region_within m l (suc i) h =
    let p : entry_room * m * 2 ^ suc i ≤ entry_room * m * 2 ^ l = mul-le-mul_left (entry_room * m) (pow_mono h) in
    let d : entry_room * m * 2 ^ suc i ≡ entry_room * m * 2 ^ i * 2 = ap (λ (x : ℕ). entry_room * m * x) (pow-suc 2 i) ∙ sym (mul_assoc (entry_room * m) (2 ^ i) 2) in
    omega arith

-- ---- what is there

pub up_to_next : (k : ℕ) (t : Tries) → up_to (suc k) t ≡ up_to k t ++ (numbered t k ∷ [])
unfolding every
up_to_next zero t = refl
up_to_next (suc k) t = refl

good_fits : {f : Front} {t : Tries} → GoodTries f t → Fit f.M f.L t
good_fits g = record { small = g.small.fits; levels = λ i h. (g.levels i h).fits }

twenty : (xs : List Key) → All Key.OfEntry xs → All WholeReference xs
twenty [] a = nil
twenty (x ∷ xs) (cons e a) = cons e.named (twenty xs a)

pub good_regular : (room : ℕ) (f : Forest) → Good room f → Regular 2 f
good_regular room f g = sound_regular 2 root [] f g.sound (twenty (keys [] f) g.entries)

pub good_numbered : (f : Front) (t : Tries) → GoodTries f t → (k : ℕ) → k ≤ f.L → Good (region_size f.M k) (numbered t k)
good_numbered f t g zero h = g.small
good_numbered f t g (suc i) h = g.levels i h

pub holds_numbered : (s : List ℕ) (f : Front) (t : Tries) → GoodTries f t → Holds s f t → (k : ℕ) → k ≤ f.L
    → region s (region_at f.M k) (region_size f.M k) ≡ padded (region_size f.M k) (encode (numbered t k))
holds_numbered s f t g h zero l = holds_small h (good_fits g)
holds_numbered s f t g h (suc i) l = holds_level h (good_fits g) i l

part_begins : (s : List ℕ) (o size n : ℕ) (b z : List ℕ) → region s o size ≡ b ++ z → n ≡ length b → part o (o + n) s ≡ b
part_begins s o size n b z e l =
    let k : o + n - o ≡ n = omega arith in
    let d : drop o s ≡ b ++ (z ++ drop size (drop o s)) =
    sym (take-append-drop size (drop o s)) ∙ ap (λ (x : List ℕ). x ++ drop size (drop o s)) e ∙ append_assoc b z (drop size (drop o s)) in
    ap₂ take k d ∙ take_at b (z ++ drop size (drop o s)) n (sym l)

-- THE PART of trie k, from what the length of a trie promises
module _ (s : List ℕ) (m l k n : ℕ) (low : k ≤ l)
    (long : (f : Forest) (z : ℕ) → Sound 2 root f → Regular 2 f → region s (region_at m k) (region_size m k) ≡ encode f ++ replicate z 0 → n ≡ length (encode f)) where
  pub part_holds : (f : Front) (t : Tries) → f.M ≡ m → f.L ≡ l → GoodTries f t → Holds s f t → part (region_at m k) (region_at m k + n) s ≡ encode (numbered t k)
  unfolding padded
  part_holds f t em el g h =
      let low' : k ≤ f.L = subst (λ (x : ℕ). k ≤ x) (sym el) low in
      let w = good_numbered f t g k low' in
      let z = region_size m k - length (encode (numbered t k)) in
      let e : region s (region_at m k) (region_size m k) ≡ encode (numbered t k) ++ replicate z 0 =
      subst (λ (x : ℕ). region s (region_at x k) (region_size x k) ≡ padded (region_size x k) (encode (numbered t k))) em (holds_numbered s f t g h k low') in
      part_begins s (region_at m k) (region_size m k) n (encode (numbered t k)) (replicate z 0) e (long (numbered t k) z w.sound (good_regular _ _ w) e)

pub placed : (s : List ℕ) (m l k from end n : ℕ) → from ≡ region_at m k → end ≡ from + region_size m k → need m l ≤ length s → k ≤ l
    → n ≤ length (part from end s)
    → ((f : Forest) (z : ℕ) → Sound 2 root f → Regular 2 f → part from end s ≡ encode f ++ replicate z 0 → n ≡ length (encode f))
    → PartOf s m l k from (from + n)
placed s m l k from end n a e lent low few long =
    let inside = region_within m l k low in
    let size : end - from ≡ region_size m k = omega arith in
    let is : part from end s ≡ region s (region_at m k) (region_size m k) = ap₂ take size (ap (λ (o : ℕ). drop o s) a) in
    let most : n ≤ region_size m k = omega (arith, few, length_part s from end (omega arith)) in
    record {
      begins = a;
      ordered = omega arith;
      inside = omega arith;
      within = omega arith;
      holds = λ f t em el g h.
          ap (λ (o : ℕ). part o (o + n) s) a ∙ part_holds s m l k n low (λ x z sx rx ex. long x z sx rx (is ∙ ex)) f t em el g h;
    }
