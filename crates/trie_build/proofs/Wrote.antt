-- What is written front to back: some of it is written, the others are still to come; the suffixes of a leaf. Assumes nothing.
use mathlib.Core.Path.{◌≡◌, refl, sym, ap, ◌∙◌}
use Prim.Native.Nat.{ℕ, zero, suc, ◌+◌, ◌-◌, ◌≤◌, ◌<◌}
use mathlib.Core.List.{List, [], ◌∷◌, ◌++◌, append_assoc, append-nil}
use native.Mathlib.Omega.{arith}
use Rattle.std.proofs.Common.{add-one, drop-cons}
use lib.ListN.{length, get_or, drop, length-append}
use Rattle.buffer.specs.Lists.{flat}
use borrow.Rule.Slice.PartMut.{put_mid}
use Rattle.buffer.specs.Splice.{splice, region}
use Rattle.buffer.proofs.Splice.{splice_is, splice_nil, splice_next, splice_part, splice_self, length_splice, length_region, region_after}
use Rattle.trie_theory.specs.Encode.{suffix_bytes}
use Rattle.trie_build.specs.Nodes.{rest, rests_bytes}
use Rattle.trie_build.proofs.Suffixes.{drop_region}

-- a front of what is to be written from `at` on is written: done of done ++ left
pub record Wrote (s₀ : List ℕ) (at : ℕ) (left whole : List ℕ) (s : List ℕ) (o : ℕ) : Type 0 where
  pub done : List ℕ
  pub is : s ≡ splice s₀ at done
  pub to : o ≡ at + length done
  pub all : done ++ left ≡ whole

pub wrote_none : (s : List ℕ) (at : ℕ) (whole : List ℕ) → Wrote s at whole whole s at
wrote_none s at whole = record { done = []; is = sym (splice_nil s at); to = omega arith; all = refl }

pub wrote_all : {s₀ s : List ℕ} {at o : ℕ} {left whole : List ℕ} → Wrote s₀ at left whole s o → left ≡ [] → (s ≡ splice s₀ at whole) × (o ≡ at + length whole)
wrote_all {s₀} {s} {at} {o} {left} {whole} w e =
    let d : w.done ≡ whole = sym (append-nil w.done) ∙ ap (λ (l : List ℕ). w.done ++ l) (sym e) ∙ w.all in
    (w.is ∙ ap (splice s₀ at) d, w.to ∙ ap (λ (l : List ℕ). at + length l) d)

module _ {s₀ s : List ℕ} {at o : ℕ} {left whole : List ℕ} (w : Wrote s₀ at left whole s o) (room : at + length whole ≤ length s₀) where
  pub sum : length w.done + length left ≡ length whole
  sum = sym (length-append w.done left) ∙ ap length w.all

  pub wrote_fits : at + length w.done ≤ length s₀
  wrote_fits = omega (arith, sum)

  pub wrote_long : length s ≡ length s₀
  wrote_long = ap length w.is ∙ length_splice s₀ at w.done wrote_fits

  pub wrote_room : (x left' : List ℕ) → left ≡ x ++ left' → o + length x ≤ length s₀
  wrote_room x left' e = omega (arith, sum, w.to, ap length e ∙ length-append x left')

  pub wrote_more : (x left' s' : List ℕ) → left ≡ x ++ left' → s' ≡ splice s o x → Wrote s₀ at left' whole s' (o + length x)
  wrote_more x left' s' e q =
      record {
        done = w.done ++ x;
        is = q ∙ rw (w.is, w.to) (splice_next s₀ at w.done wrote_fits x);
        to = omega (arith, w.to, length-append w.done x);
        all = append_assoc w.done x left' ∙ ap (λ (l : List ℕ). w.done ++ l) (sym e) ∙ w.all;
      }

-- ---- a part of a stretch, written

pub part_splice : (s : List ℕ) (o n : ℕ) (b : List ℕ) → o + n ≤ length s → length b ≤ n → put_mid o n s (splice (region s o n) 0 b) ≡ splice s o b
part_splice s o n b h l =
    let y : List ℕ = splice (region s o n) 0 b in
    let r : List ℕ = region s (o + length b) (n - length b) in
    let lr : length (region s o n) ≡ n = length_region s o n h in
    let ly : length y ≡ n = length_splice (region s o n) 0 b (omega arith) ∙ lr in
    let fit : o + length b ≤ length s = omega arith in
    let z : 0 + length b ≡ length b = omega arith in
    let is : y ≡ b ++ r = splice_is (region s o n) 0 b ∙ rw (z, drop_region s o n (length b) l) refl in
    let back : region (splice s o b) (o + length b) (n - length b) ≡ r = region_after s o b fit (o + length b) (n - length b) (omega arith) in
    splice_part s o n y ly ∙ ap (splice s o) is ∙ sym (splice_next s o b fit r)
    ∙ ap (splice (splice s o b) (o + length b)) (sym back) ∙ splice_self (splice s o b) (o + length b) (n - length b) (omega (arith, length_splice s o b fit))

-- ---- the suffixes of the slots from slot k on

pub rests_suc : (value path : ℕ) (r : List ℕ) (rs : List (List ℕ)) → rests_bytes value path (r ∷ rs) ≡ suffix_bytes (rest value path r) ++ rests_bytes value path rs
unfolding rests_bytes flat
rests_suc value path r rs = refl

pub rests_none : (value path : ℕ) → rests_bytes value path [] ≡ []
unfolding rests_bytes flat
rests_none value path = refl

-- the suffix of slot k is the first of those from there on
pub rests_next : (value path : ℕ) (rs : List (List ℕ)) (k : ℕ) → k < length rs
    → rests_bytes value path (drop k rs) ≡ suffix_bytes (rest value path (get_or rs k [])) ++ rests_bytes value path (drop (k + 1) rs)
rests_next value path rs k h = rw (add-one, drop-cons rs k []) (rests_suc value path (get_or rs k []) (drop (suc k) rs))

-- behind the last there is none
pub rests_end : (value path : ℕ) (rs : List (List ℕ)) (k : ℕ) → length rs ≤ k → rests_bytes value path (drop k rs) ≡ []
rests_end value path rs k h = ap (rests_bytes value path) (nothing rs k h) ∙ rests_none value path
  where
    nothing : (rs : List (List ℕ)) (k : ℕ) → length rs ≤ k → drop k rs ≡ []
    nothing [] zero h = refl
    nothing [] (suc k) h = refl
    nothing (r ∷ rs) zero h = absurd (omega arith)
    nothing (r ∷ rs) (suc k) h = nothing rs k (omega arith)
