-- Keys of which none is a proper beginning of another in any dimension: such a key has the bytes that an addition needs.
use Prim.Native.Nat.{ℕ, zero, suc, ◌≤◌, ◌<◌}
use mathlib.Core.Path.{◌≡◌, refl, sym, ap, ap₂, ◌∙◌}
use mathlib.Core.Bool.{Bool, true, false, cond, false≢true}
use mathlib.Core.Option.{Option, none, some}
use mathlib.Core.List.{List, [], ◌∷◌, ◌++◌, append_assoc, append-nil}
use native.Mathlib.Omega.{arith}
use lib.ListN.{length, drop}
use lib.Dec.{eqb, ltb}
use borrow.Author.Tests.{eqb-false, ltb-true, ltb-false, eq-eqb}
use Rattle.trie_theory.specs.Forest.{Strings, Key, join, under}
use Rattle.trie_theory.specs.Strings.{all_begin, common, commons, strip, remains, at, first}
use Rattle.trie_theory.specs.Dimensions.{Above, root, below, wanted, turn, branching}
use Rattle.trie_theory.specs.SmallTrie.{meets, chosen, differing}
use Rattle.trie_theory.specs.Sound.{Starts}
use Rattle.trie_theory.proofs.Prefix.{Prefixes, From, prefixes_all_begin, commons_left, commons_right}
use Rattle.trie_theory.proofs.Strings.{join_strip, at_join, at_strip, first_at, length_strip, length_commons}
use Rattle.trie_theory.proofs.Round.{turn_passes, turn_none, wanted_inside}
use Rattle.trie_theory.proofs.Branching.{meets_true}

-- no string of x is a proper beginning of y's in its dimension
unfoldable pub Free : Key → Key → Type 0
Free x y = (d : ℕ) (u : List ℕ) → at d y.strings ≡ at d x.strings ++ u → u ≡ []

-- a string is its prefix and what is left
pub at_split : (d : ℕ) (p s : Strings) → Prefixes p s → at d s ≡ at d p ++ at d (strip p s)
at_split d p s h = ap (at d) (sym (join_strip p s h)) ∙ at_join d p (strip p s)

append_empty : (u v : List ℕ) → u ++ v ≡ [] → u ≡ []
append_empty [] v e = refl
append_empty (x ∷ u) v e = absurd (let z : ◌≡◌ {A = ℕ} 0 1 = cc in omega arith)

-- x has the branching byte that the beginning s of y has
pub free_starts : (d : ℕ) (s : Strings) (x y : Key) → Free x y → From s y → Starts (below d) s → Starts (below d) x.strings
unfolding Free Starts
free_starts d s x y h f p e =
    p (append_empty (at d s) (at d (strip s y.strings))
    (sym (at_split d s y.strings f) ∙ h d (at d y.strings) (sym (ap (λ (l : List ℕ). l ++ at d y.strings) e))))

-- and has bytes left where that beginning has
pub free_left : (d : ℕ) (s : Strings) (x y : Key) → Free x y → From s y → let p = commons s x.strings in
    Starts (below d) (strip p s) → Starts (below d) (strip p x.strings)
unfolding Free Starts
free_left d s x y h f l e =
    let p = commons s x.strings in
    let rest = at d (strip s y.strings) in
    let same : at d x.strings ≡ at d p =
    at_split d p x.strings (commons_right s x.strings) ∙ ap (λ (l : List ℕ). at d p ++ l) e ∙ append-nil (at d p) in
    l (append_empty (at d (strip p s)) rest
    (h d (at d (strip p s) ++ rest)
    (at_split d s y.strings f
    ∙ ap (λ (l : List ℕ). l ++ rest)
    (at_split d p s (commons_left s x.strings) ∙ ap (λ (l : List ℕ). l ++ at d (strip p s)) (sym same))
    ∙ append_assoc (at d x.strings) (at d (strip p s)) rest)))

-- below strings with which x agrees, what remains of it is free of what is below, and the other way
module _ (s : Strings) (x y : Key) (agrees : From s x) where
  pub free_below : Free x (under s y) → Free (remains s x) y
  unfolding Free under remains
  free_below h d u e =
      h d u (at_join d s y.strings ∙ ap (λ (l : List ℕ). at d s ++ l) e ∙ sym (append_assoc (at d s) (at d (strip s x.strings)) u)
      ∙ ap (λ (l : List ℕ). l ++ u) (sym (at_split d s x.strings agrees)))

  pub held_below : Free (under s y) x → Free y (remains s x)
  unfolding Free under remains
  held_below h d u e =
      h d u (at_split d s x.strings agrees ∙ ap (λ (l : List ℕ). at d s ++ l) e ∙ sym (append_assoc (at d s) (at d y.strings) u)
      ∙ ap (λ (l : List ℕ). l ++ u) (sym (at_join d s y.strings)))

common_none : (s : List ℕ) → common s [] ≡ []
unfolding common
common_none [] = refl
common_none (a ∷ s) = refl

pub commons_at : (d : ℕ) (a b : Strings) → at d (commons a b) ≡ common (at d a) (at d b)
unfolding commons common
commons_at d [] b = refl
commons_at d (a ∷ a') [] = sym (common_none (at d (a ∷ a')))
commons_at zero (a ∷ a') (b ∷ bs) = refl
commons_at (suc d) (a ∷ a') (b ∷ bs) = commons_at d a' bs

-- what two strings have left behind their common bytes begins with different bytes
left_differ : (s k : List ℕ) → (drop (length (common s k)) s ≡ [] → ⊥) → (drop (length (common s k)) k ≡ [] → ⊥)
    → first zero (drop (length (common s k)) s ∷ []) ≡ first zero (drop (length (common s k)) k ∷ []) → ⊥
unfolding common first
left_differ [] k p q e = p refl
left_differ (a ∷ s) [] p q e = q refl
left_differ (a ∷ s) (b ∷ k) p q e = go (eqb a b) refl (left_differ s k) p q e
  where
    go : (w : Bool) → eqb a b ≡ w
        → ((drop (length (common s k)) s ≡ [] → ⊥) → (drop (length (common s k)) k ≡ [] → ⊥)
        → first zero (drop (length (common s k)) s ∷ []) ≡ first zero (drop (length (common s k)) k ∷ []) → ⊥)
        → (drop (length (cond w (a ∷ common s k) [])) (a ∷ s) ≡ [] → ⊥)
        → (drop (length (cond w (a ∷ common s k) [])) (b ∷ k) ≡ [] → ⊥)
        → first zero (drop (length (cond w (a ∷ common s k) [])) (a ∷ s) ∷ [])
        ≡ first zero (drop (length (cond w (a ∷ common s k) [])) (b ∷ k) ∷ [])
        → ⊥
    go true t ih p' q' z = ih p' q' z
    go false t ih p' q' z = eqb-false a b t z

pub lefts_differ : (d : ℕ) (s k : Strings) → let p = commons s k in
    Starts (below d) (strip p s) → Starts (below d) (strip p k) → first d (strip p s) ≡ first d (strip p k) → ⊥
unfolding Starts
lefts_differ d s k f g e =
    left_differ (at d s) (at d k) (λ z. f (left s ∙ z)) (λ z. g (left k ∙ z))
    (ap (λ (l : List ℕ). first zero (l ∷ [])) (sym (left s)) ∙ sym (first_at d (strip (commons s k) s)) ∙ e
    ∙ first_at d (strip (commons s k) k) ∙ ap (λ (l : List ℕ). first zero (l ∷ [])) (left k))
  where
    left : (t : Strings) → at d (strip (commons s k) t) ≡ drop (length (common (at d s) (at d k))) (at d t)
    left t = at_strip d (commons s k) t ∙ ap (λ (l : List ℕ). drop (length l) (at d t)) (commons_at d s k)

-- what a node has in common with a key that has its branching byte begins with that byte
common_some : (s k : List ℕ) → (s ≡ [] → ⊥) → (k ≡ [] → ⊥) → first zero (s ∷ []) ≡ first zero (k ∷ []) → common s k ≡ [] → ⊥
unfolding common first
common_some [] k p q e z = p refl
common_some (a ∷ s) [] p q e z = q refl
common_some (a ∷ s) (b ∷ k) p q e z = let r : a ∷ common s k ≡ [] = rw (eq-eqb a b e) at z in let c : ◌≡◌ {A = ℕ} 0 1 = cc in omega arith

pub commons_starts : (above : Above) (s k : Strings) → Starts above s → Starts above k → meets above s k ≡ true
    → Starts above (commons s k)
unfolding Starts branching
commons_starts root s k f g m = tt
commons_starts (below d) s k f g m = λ z.
    common_some (at d s) (at d k) f g (sym (first_at d s) ∙ meets_true (below d) s k m ∙ first_at d k) (sym (commons_at d s k) ∙ z)

-- strings without bytes in any dimension leave others as they are
blank_join : (a b : Strings) → length a ≡ length b → ((d : ℕ) → d < length b → at d b ≡ []) → join a b ≡ a
unfolding join
blank_join [] [] e h = refl
blank_join [] (b ∷ bs) e h = absurd (omega arith)
blank_join (a ∷ a') [] e h = refl
blank_join (a ∷ a') (b ∷ bs) e h =
    ap₂ ◌∷◌ (ap (λ (l : List ℕ). a ++ l) (h 0 (omega arith)) ∙ append-nil a)
    (blank_join a' bs (omega arith) (λ d l. h (suc d) (omega arith)))

-- THE NEW PARENT'S DIMENSION: a node that does not agree with a key has bytes left there
pub differing_starts : (above : Above) (s k : Strings) → length s ≡ length k → Starts above s → all_begin s k ≡ false
    → let p = commons s k in Starts (below (differing above (strip p s))) (strip p s)
unfolding Starts differing chosen
differing_starts above s k e f g = go (turn t (length l) above) refl
  where
    l : Strings
    l = strip (commons s k) s

    t : ℕ → Bool
    t = λ d. ltb 0 (length (at d l))

    wide : length (commons s k) ≡ length l
    wide = length_commons s k e ∙ sym e ∙ sym (length_strip (commons s k) s)

    empty : (b : List ℕ) → length b ≤ 0 → b ≡ []
    empty [] m = refl
    empty (x ∷ b) m = absurd (omega arith)

    some_strings : (s : Strings) → all_begin s k ≡ false → 0 < length s
    some_strings [] g = absurd (false≢true (sym (unfold all_begin in g)))
    some_strings (x ∷ s) g = omega arith

    go : (o : Option ℕ) → turn t (length l) above ≡ o → at (chosen o) l ≡ [] → ⊥
    go (some d) q z = let r = ltb-true 0 (length (at d l)) (turn_passes t (length l) above d q) in omega (arith, ap length z)
    go none q z =
        let inside : wanted (length l) above < length l = wanted_inside (length l) above s (sym (length_strip (commons s k) s))
        (omega (arith, some_strings s g, length_strip (commons s k) s)) f in
        let agrees : commons s k ≡ s =
        sym (blank_join (commons s k) l wide (λ d m. empty (at d l)
        (ltb-false 0 (length (at d l)) (turn_none t (length l) above inside q d m))))
        ∙ join_strip (commons s k) s (commons_left s k) in
        false≢true (sym g ∙ prefixes_all_begin s k (rw agrees at (commons_right s k)))
