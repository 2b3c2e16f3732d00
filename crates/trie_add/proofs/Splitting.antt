-- A node split: its bytes as the code writes them, the fronts first and then the new leaf into its place. Assumes nothing.
use mathlib.Core.Path.{◌≡◌, refl, sym, ap, ◌∙◌}
use mathlib.Core.Bool.{Bool, true, false, cond}
use Prim.Native.Nat.{ℕ, suc, ◌+◌, ◌-◌, ◌≤◌}
use mathlib.Core.List.{List, [], ◌∷◌, ◌++◌, append_assoc, append-nil}
use native.Mathlib.Omega.{arith}
use lib.ListN.{length, take, drop, length-append}
use lib.Seq.{length-take-le}
use lib.Dec.{eqb, ltb}
use Rattle.buffer.specs.Splice.{splice, region}
use Rattle.buffer.proofs.Splice.{splice_insert, region_add, length_region}
use Rattle.trie_theory.specs.Forest.{Strings, none}
use Rattle.trie_theory.specs.Strings.{common, commons, strip, remains, first}
use Rattle.trie_theory.specs.Dimensions.{Above, branching}
use Rattle.trie_theory.specs.SmallTrie.{new_leaf, differing}
use Rattle.trie_theory.specs.Encode.{encode, node_bytes}
use Rattle.std.specs.Prelude.{Some}
use Rattle.trie_read.specs.Shape.{key_of, above_of}
use Rattle.trie_read.specs.Kinds.{number_of}
use Rattle.trie_read.specs.declared.kind.Dimension.{Dimension}
use Rattle.trie_read.specs.Heads.{front}
use Rattle.trie_read.proofs.Node.{node_is, length_front}
use Rattle.trie_write.proofs.NewLeaf.{length_new_leaf}
use Rattle.trie_add.specs.Replaced.{Replaced, split_bytes}
use Rattle.trie_add.proofs.Fronts.{fronts, length_fronts}

-- what a string has in common with another is a beginning of it
common_take : (s t : List ℕ) → take (length (common s t)) s ≡ common s t
unfolding common
common_take [] t = refl
common_take (a ∷ s) [] = refl
common_take (a ∷ s) (b ∷ t) = go (eqb a b) (common_take s t)
  where
    go : (e : Bool) → take (length (common s t)) s ≡ common s t → take (length (cond e (a ∷ common s t) [])) (a ∷ s) ≡ cond e (a ∷ common s t) []
    go true h = ap (◌∷◌ a) h
    go false h = refl

taken : (s t : List ℕ) (n : ℕ) → n ≡ length (common s t) → take n s ≡ common s t
taken s t n e = rw e (common_take s t)

pub own_is : (kind : ℕ) (s : Strings) (body : List ℕ) → length s ≡ 2 → node_bytes kind s body ≡ front kind s (length body) ++ body
own_is kind s body h = sym (append-nil (node_bytes kind s body)) ∙ node_is kind s body [] h ∙ ap (λ (w : List ℕ). front kind s (length body) ++ w) (append-nil body)

module _ (above : Above) (kind : ℕ) (nv np body v p r : List ℕ) (h : length r ≡ 20) (a b : ℕ) (in_value : a ≡ length (common nv v)) (in_path : b ≡ length (common np p)) where
  abbrev left : Strings
  left = drop a nv ∷ drop b np ∷ []

  abbrev d : ℕ
  d = differing above left

  abbrev new : List ℕ
  new = encode (new_leaf (key_of (drop a v) (drop b p) r) none)

  abbrev old : List ℕ
  old = front kind left (length body)

  abbrev size : ℕ
  size = 7 + length (drop a nv) + length (drop b np) + length body + (29 + length (drop a v) + length (drop b p))

  abbrev test : Bool
  test = ltb (first d (drop a v ∷ drop b p ∷ [])) (first d left)

  unfoldable pub children : Bool → List ℕ
  children t = cond t (new ++ (old ++ body)) ((old ++ body) ++ new)

  length_kids : (t : Bool) → length (children t) ≡ size
  unfolding children
  length_kids true = omega (arith, length-append new (old ++ body), length-append old body, length_front kind left (length body), length_new_leaf (drop a v) (drop b p) r h)
  length_kids false = omega (arith, length-append (old ++ body) new, length-append old body, length_front kind left (length body), length_new_leaf (drop a v) (drop b p) r h)

  pub split_is : split_bytes above kind (nv ∷ np ∷ []) body (key_of v p r) ≡ front (suc d) (take a nv ∷ take b np ∷ []) size ++ children test
  unfolding split_bytes commons strip remains children
  split_is =
      rw (← in_value, ← in_path, own_is kind left body refl)
      (own_is (suc d) (common nv v ∷ common np p ∷ []) (children test) refl
      ∙ rw (length_kids test, taken nv v a in_value, taken np p b in_path))

  -- both fronts have gone into the place of the node's at `at`, and the leaf has gone into its place, before the node or behind it
  module _ (s s₁ s₂ : List ℕ) (at start next used : ℕ)
      (bounds : (at ≤ start) × (start ≤ next) × (next ≤ used) × (used + 7 + (29 + length (drop a v) + length (drop b p)) ≤ length s))
      (was : body ≡ region s start (next - start)) (long : start ≡ at + (7 + length nv + length np)) (la : a ≤ length nv) (lb : b ≤ length np)
      (up sized own : ℕ) (branches : up ≡ suc d) (whole : sized ≡ size) (alike : own ≡ length body)
      (fronted : s₁ ≡ splice s at (fronts a b up sized nv np kind own ++ region s start (used - start))) where
    abbrev one : List ℕ
    one = front (suc d) (take a nv ∷ take b np ∷ []) size

    abbrev tail : List ℕ
    tail = region s next (used - next)

    one_whole : length one ≡ 7 + a + b
    one_whole = omega (arith, length_front (suc d) (take a nv ∷ take b np ∷ []) size, length-take-le a nv la, length-take-le b np lb)

    body_long : length body ≡ next - start
    body_long = ap length was ∙ length_region s start (next - start) (omega arith)

    tail_long : length tail ≡ used - next
    tail_long = length_region s next (used - next) (omega arith)

    one_long : length one + length old ≡ 14 + length nv + length np
    unfolding fronts
    one_long = omega (arith, length-append one old, length_fronts a b (suc d) size nv np kind (length body) la lb)

    behind : region s start (used - start) ≡ body ++ tail
    behind =
        let e : used - start ≡ (next - start) + (used - next) = omega arith in
        let f : start + (next - start) ≡ next = omega arith in
        rw (e, region_add s start (next - start) (used - next), f, ← was)

    fronted_all : s₁ ≡ splice s at (one ++ (old ++ (body ++ tail)))
    unfolding fronts
    fronted_all = fronted ∙ rw (branches, whole, alike, behind, append_assoc one old (body ++ tail))

    new_long : length new ≡ 29 + length (drop a v) + length (drop b p)
    new_long = length_new_leaf (drop a v) (drop b p) r h

    replaced : (t : Bool) → test ≡ t → s₂ ≡ splice s at (one ++ (children t ++ tail)) → Replaced s at next used (split_bytes above kind (nv ∷ np ∷ []) body (key_of v p r)) s₂ (7 + (29 + length (drop a v) + length (drop b p)))
    replaced t e q =
        record {
          is = q ∙ rw (split_is, e) (ap (splice s at) (sym (append_assoc one (children t) tail)));
          long = rw split_is (omega (arith, length-append one (children test), length_kids test, length_front kind left (length body), one_long, body_long, long));
        }

    split_first : test ≡ true → s₂ ≡ splice s₁ (at + 7 + (a + b)) (new ++ region s₁ (at + 7 + (a + b)) (used + 7 - (at + 7 + (a + b))))
        → Replaced s at next used (split_bytes above kind (nv ∷ np ∷ []) body (key_of v p r)) s₂ (7 + (29 + length (drop a v) + length (drop b p)))
    unfolding children
    split_first e q =
        let n : used + 7 - (at + 7 + (a + b)) ≡ length (old ++ (body ++ tail)) =
        omega (arith, one_whole, one_long, length-append old (body ++ tail), length-append body tail, body_long, tail_long) in
        replaced true e
        (q
        ∙ splice_insert s s₁ at (at + 7 + (a + b)) _ one new (old ++ (body ++ tail)) fronted_all (omega (arith, one_whole)) n
        (omega (arith, one_long, new_long, length-append old (body ++ tail), length-append body tail, body_long, tail_long))
        ∙ ap (λ (w : List ℕ). splice s at (one ++ w)) (simp append_assoc))

    split_last : test ≡ false → s₂ ≡ splice s₁ (next + 7) (new ++ region s₁ (next + 7) (used + 7 - (next + 7)))
        → Replaced s at next used (split_bytes above kind (nv ∷ np ∷ []) body (key_of v p r)) s₂ (7 + (29 + length (drop a v) + length (drop b p)))
    unfolding children
    split_last e q =
        let x = one ++ (old ++ body) in
        let l = length-append one (old ++ body) in
        let m = length-append old body in
        let all : s₁ ≡ splice s at (x ++ tail) = fronted_all ∙ ap (splice s at) (simp append_assoc) in
        let n : used + 7 - (next + 7) ≡ length tail = omega (arith, tail_long) in
        replaced false e
        (q
        ∙ splice_insert s s₁ at (next + 7) _ x new tail all (omega (arith, l, m, one_long, body_long)) n (omega (arith, l, m, one_long, new_long, body_long, tail_long))
        ∙ ap (splice s at) (simp append_assoc))

    pub split_done : (dimension : Dimension) → number_of dimension ≡ d → (front : Bool) (place : ℕ)
        → front ≡ ltb (branching (above_of (Some dimension)) (drop a v ∷ drop b p ∷ [])) (branching (above_of (Some dimension)) left) → place ≡ cond front (at + 7 + (a + b)) (next + 7)
        → s₂ ≡ splice s₁ place (new ++ region s₁ place (used + 7 - place))
        → Replaced s at next used (split_bytes above kind (nv ∷ np ∷ []) body (key_of v p r)) s₂ (7 + (29 + length (drop a v) + length (drop b p)))
    unfolding branching
    split_done dimension m true place e q w = split_first (sym (rw m at e)) (rw q at w)
    split_done dimension m false place e q w = split_last (sym (rw m at e)) (rw q at w)

pub resized : {s own s' : List ℕ} {at next used r r' : ℕ} → Replaced s at next used own s' r → r ≡ r' → Replaced s at next used own s' r'
resized {next = next} c e = record { is = c.is; long = c.long ∙ ap (λ (n : ℕ). next + n) e }
