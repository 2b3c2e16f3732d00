-- One trie after the other is asked. Assumes nothing.
use mathlib.Core.Path.{◌≡◌, refl, sym, ap, ◌∙◌, subst}
use mathlib.Core.Bool.{Bool, true, false, ◌||◌}
use Prim.Native.Nat.{ℕ, zero, suc, ◌+◌, ◌-◌, ◌≤◌}
use mathlib.Core.List.{List, [], ◌∷◌}
use native.Mathlib.Omega.{arith}
use native.Mathlib.Numerals.{add-one}
use lib.ListN.{length}
use Rattle.std.specs.Prelude.{◌<◌, slice_index_or}
use Rattle.std.specs.Bool.{MatchBool}
use Rattle.std.specs.List.{range_with_len, HoldsAt, AllWithin}
use Rattle.std.proofs.lemmas.List.FromFn.{length-range_with_len, get_or-range_with_len}
use Rattle.buffer.specs.Lists.{any}
use Rattle.buffer.proofs.Lists.{any_append}
use Rattle.buffer.proofs.Tests.{or_left, or_right, or_false}
use Rattle.trie_theory.specs.Forest.{Key, Forest}
use Rattle.trie_theory.specs.Dimensions.{root}
use Rattle.trie_theory.specs.Lookup.{member}
use Rattle.trie_theory.specs.Encode.{Regular, encode}
use Rattle.book.specs.Tries.{Tries}
use Rattle.store.specs.Parts.{numbered, up_to, TrieIs}
use Rattle.store.proofs.Places.{up_to_next, good_numbered, good_regular}
use Rattle.store_add.specs.Placed.{InTrie, InFirst, LookedUp}

any_none : {A : Type 0} (p : A → Bool) → any p [] ≡ false
unfolding any
any_none p = refl

any_one : {A : Type 0} (p : A → Bool) (x : A) → any p (x ∷ []) ≡ p x || false
unfolding any
any_one p x = refl

-- one of the first, and so one of all
any_more : (p : Forest → Bool) (t : Tries) (k n : ℕ) → any p (up_to k t) ≡ true → any p (up_to (k + n) t) ≡ true
any_more p t k zero e = subst (λ (i : ℕ). any p (up_to i t) ≡ true) (let z : k ≡ k + zero = omega arith in z) e
any_more p t k (suc n) e =
    let z : k + suc n ≡ suc (k + n) = omega arith in
    ap (λ (i : ℕ). any p (up_to i t)) z ∙ ap (any p) (up_to_next (k + n) t) ∙ any_append p (up_to (k + n) t) (numbered t (k + n) ∷ [])
    ∙ or_left (any p (up_to (k + n) t)) (any p (numbered t (k + n) ∷ [])) (any_more p t k n e)

next : (p : Forest → Bool) (t : Tries) (k : ℕ) → any p (up_to (k + 1) t) ≡ any p (up_to k t) || (p (numbered t k) || false)
next p t k =
    ap (λ (i : ℕ). any p (up_to i t)) (add-one k) ∙ ap (any p) (up_to_next k t) ∙ any_append p (up_to k t) (numbered t k ∷ [])
    ∙ ap (λ (b : Bool). any p (up_to k t) || b) (any_one p (numbered t k))

module _ (m l : ℕ) (x : Key) (store : List ℕ) where
  looked_none : InFirst m l 0 x store false
  looked_none f t em el g h = sym (any_none (λ g. member root g x))

  looked_next : (k : ℕ) → InFirst m l k x store false → InTrie m l k x store false → InFirst m l (k + 1) x store false
  looked_next k a b f t em el g h =
      sym (next (λ g. member root g x) t k ∙ or_false _ _ (sym (a f t em el g h)) (or_false _ _ (sym (b f t em el g h)) refl))

  looked_found : (k : ℕ) → k ≤ l → InTrie m l k x store true → LookedUp m l x store true
  looked_found k low b f t em el g h =
      let p : Forest → Bool = λ g. member root g x in
      let z : k + 1 + (l - k) ≡ l + 1 = omega arith in
      let here : any p (up_to (k + 1) t) ≡ true = next p t k ∙ or_right (any p (up_to k t)) _ (or_left _ false (sym (b f t em el g h))) in
      sym (ap (λ (i : ℕ). any p (up_to i t)) (sym (z ∙ add-one l)) ∙ any_more p t (k + 1) (l - k) here)

  looked_first : (n : ℕ) → ((k : ℕ) → k < n → InTrie m l k x store false) → InFirst m l n x store false
  looked_first zero all = looked_none
  looked_first (suc n) all =
      subst (λ (i : ℕ). InFirst m l i x store false) (add-one n) (looked_next n (looked_first n (λ k h. all k (omega arith))) (all n (omega arith)))

  -- trie i of the tries, as they are counted
  counted : (n i : ℕ) → i < n → slice_index_or (range_with_len 0 n) i 0 ≡ i
  counted n i h = omega (arith, get_or-range_with_len 0 n i 0 h)

  -- what `any` says of them
  pub looked : (r : Bool) (n : ℕ) → n ≡ l + 1
      → MatchBool r ((k : ℕ) × (k < length (range_with_len 0 n)) × HoldsAt (λ i. InTrie m l i x store true) (range_with_len 0 n) k)
      (AllWithin (λ i. InTrie m l i x store false) (range_with_len 0 n) 0 (length (range_with_len 0 n)))
      → LookedUp m l x store r
  looked true n e a =
      let low : a.0 < n = omega (arith, length-range_with_len 0 n, a.1) in
      looked_found a.0 (omega arith) (subst (λ (i : ℕ). InTrie m l i x store true) (counted n a.0 low) (a.2 0))
  looked false n e a =
      let none : InFirst m l n x store false =
      looked_first n (λ k h. subst (λ (i : ℕ). InTrie m l i x store false) (counted n k h) (a k 0 (omega arith) (omega (arith, length-range_with_len 0 n)))) in
      subst (λ (i : ℕ). InFirst m l i x store false) (e ∙ add-one l) none

  -- trie k, from its bytes
  pub in_part : (k : ℕ) (bytes : List ℕ) (r : Bool) → k ≤ l → TrieIs store m l k bytes
      → ((f : Forest) → Regular 2 f → bytes ≡ encode f → r ≡ member root f x) → InTrie m l k x store r
  in_part k bytes r low p c f t em el g h =
      c (numbered t k) (good_regular _ _ (good_numbered f t g k (subst (λ (i : ℕ). k ≤ i) (sym el) low))) (p.is ∙ p.part_of.holds f t em el g h)
