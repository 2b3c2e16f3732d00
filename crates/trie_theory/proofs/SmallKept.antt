-- NOTHING IS LOST AND NOTHING INVENTED: the keys of a trie with a key added are that key and the trie's keys. And the bytes:
-- an addition makes a trie longer by its growth, to the byte.
use Prim.Native.Nat.{ℕ, ◌+◌}
use mathlib.Core.Path.{◌≡◌, refl, ap, ap₂, ◌∙◌}
use mathlib.Core.Bool.{Bool, true, false, cond}
use mathlib.Core.List.{List, [], ◌∷◌, ◌++◌, map}
use native.Mathlib.Omega.{arith}
use lib.Dec.{ltb}
use Rattle.trie_theory.specs.Forest.{Strings, Key, Forest, none, leaf, inner, join, under, keys}
use Rattle.buffer.specs.Lists.{sum}
use Rattle.trie_theory.specs.Strings.{all_begin, commons, strip, remains, first, total}
use Rattle.trie_theory.specs.Dimensions.{Above, root, below}
use Rattle.trie_theory.specs.SmallTrie.{new_leaf, two, differing, split, outcome, added, grown, small_trie}
use Rattle.trie_theory.specs.Size.{cost, growth}
use Rattle.buffer.proofs.Lists.{map_append}
use Rattle.buffer.proofs.Sums.{sum_append}
use Rattle.trie_theory.proofs.Prefix.{all_begin_prefixes, prefixes_refl, commons_left, commons_right}
use Rattle.trie_theory.proofs.Strings.{join_assoc, join_strip, total_strip}
use Rattle.trie_theory.proofs.Keys.{under_known}
use Rattle.trie_theory.proofs.SmallStep.{placed, placed_cases}

module _ (h : Key → ℕ) where
  sum_new_leaf : (k : Strings) (x : Key) (more : Forest) → sum h (keys k (new_leaf x more)) ≡ h (under k x) + sum h (keys k more)
  unfolding keys new_leaf sum
  sum_new_leaf k x more = ap (λ (y : Key). h y + sum h (keys k more)) (under_known k x.strings x (prefixes_refl x.strings))

  -- a node that has the keys c below the bytes known at it
  module _ (node : Strings → Forest → Forest) (c : Strings → ℕ)
      (own : (k s : Strings) (more : Forest) → sum h (keys k (node s more)) ≡ c (join k s) + sum h (keys k more)) where
    sum_two : (d : ℕ) (k s : Strings) (x : Key) → sum h (keys k (two d node s x)) ≡ h (under k x) + c (join k s)
    unfolding two keys sum
    sum_two d k s x = go (ltb (first d x.strings) (first d s))
      where
        go : (b : Bool) → sum h (keys k (cond b (new_leaf x (node s none)) (node s (new_leaf x none)))) ≡ h (under k x) + c (join k s)
        go true = omega (arith, sum_new_leaf k x (node s none), own k s none)
        go false = omega (arith, own k s (new_leaf x none), sum_new_leaf k x none)

    sum_split : (above : Above) (k s : Strings) (x : Key) (more : Forest)
        → sum h (keys k (split above node s x more)) ≡ h (under k x) + (c (join k s) + sum h (keys k more))
    unfolding split keys
    sum_split above k s x more =
        let p = commons s x.strings in
        let d = differing above (strip p s) in
        let e : sum h (keys (join k p) (two d node (strip p s) (remains p x))) ≡ h (under k x) + c (join k s) =
        sum_two d (join k p) (strip p s) (remains p x)
        ∙ ap₂ (λ (y : Key) (l : Strings). h y + c l) (under_known k p x (commons_right s x.strings))
        (join_assoc k p (strip p s) ∙ ap (join k) (join_strip p s (commons_left s x.strings))) in
        omega (arith, sum_append h (keys (join k p) (two d node (strip p s) (remains p x))) (keys k more), e)

    sum_placed : (above : Above) (k s : Strings) (x : Key) (agreed more later : Forest)
        → (all_begin s x.strings ≡ true → sum h (keys k agreed) ≡ h (under (join k s) (remains s x)) + sum h (keys k (node s more)))
        → sum h (keys k later) ≡ h (under k x) + sum h (keys k more)
        → sum h (keys k (placed above node s x agreed more later)) ≡ h (under k x) + sum h (keys k (node s more))
    sum_placed above k s x agreed more later a l =
        placed_cases (λ g. sum h (keys k g) ≡ h (under k x) + sum h (keys k (node s more))) above node s x agreed more later
        (λ m g. a g ∙ ap (λ (y : Key). h y + sum h (keys k (node s more))) (under_known k s x (all_begin_prefixes s x.strings g)))
        (λ m g. omega (arith, sum_split above k s x more, own k s more))
        (λ m b. sum_new_leaf k x (node s more))
        (λ m b. omega (arith, l, own k s later, own k s more))

  pub sum_added : (above : Above) (k : Strings) (f : Forest) (x : Key)
      → sum h (keys k (added above f x)) ≡ h (under k x) + sum h (keys k f)
  unfolding added keys sum
  sum_added above k none x = sum_new_leaf k x none
  sum_added above k (leaf s ts more) x =
      let mine = map (under (join k s)) ts in
      let new = under (join k s) (remains s x) in
      sum_placed (λ s' m. leaf s' ts m) (λ l. sum h (map (under l) ts)) (λ k' s' m. sum_append h (map (under (join k' s')) ts) (keys k' m))
      above k s x (leaf s (ts ++ (remains s x ∷ [])) more) more (added above more x)
      (λ g. omega (
        arith,
        sum_append h (map (under (join k s)) (ts ++ (remains s x ∷ []))) (keys k more),
        ap (sum h) (map_append (under (join k s)) ts (remains s x ∷ [])),
        sum_append h mine (new ∷ []),
        sum_append h mine (keys k more),
      ))
      (sum_added above k more x)
  sum_added above k (inner d s children more) x =
      let grown-children = added (below d) children (remains s x) in
      sum_placed (λ s' m. inner d s' children m) (λ l. sum h (keys l children)) (λ k' s' m. sum_append h (keys (join k' s') children) (keys k' m))
      above k s x (inner d s grown-children more) more (added above more x)
      (λ g. omega (
        arith,
        sum_added (below d) (join k s) children (remains s x),
        sum_append h (keys (join k s) grown-children) (keys k more),
        sum_append h (keys (join k s) children) (keys k more),
      ))
      (sum_added above k more x)

  sum_grown : (t : Forest) (xs : List Key) → sum h (keys [] (grown t xs)) ≡ sum h xs + sum h (keys [] t)
  unfolding grown sum under join
  sum_grown t [] = omega arith
  sum_grown t (x ∷ xs) = omega (arith, sum_grown (added root t x) xs, sum_added root [] t x)

  pub small_sum : (xs : List Key) → sum h (keys [] (small_trie xs)) ≡ sum h xs
  unfolding small_trie keys sum
  small_sum xs = omega (arith, sum_grown none xs)

-- the small trie of a sequence grows from that of the sequence before
grown_last : (t : Forest) (xs : List Key) (x : Key) → grown t (xs ++ (x ∷ [])) ≡ added root (grown t xs) x
unfolding grown
grown_last t [] x = refl
grown_last t (y ∷ ys) x = grown_last (added root t y) ys x

pub small_last : (xs : List Key) (x : Key) → small_trie (xs ++ (x ∷ [])) ≡ added root (small_trie xs) x
unfolding small_trie
small_last xs x = grown_last none xs x

module _ (h u : ℕ) where
  cost_new_leaf : (x : Key) (more : Forest) → cost h u (new_leaf x more) ≡ h + u + total x.strings + cost h u more
  unfolding cost new_leaf remains sum
  cost_new_leaf x more = omega (arith, total_strip x.strings x.strings (prefixes_refl x.strings))

  module _ (node : Strings → Forest → Forest) (c : ℕ)
      (own : (s : Strings) (more : Forest) → cost h u (node s more) ≡ h + total s + c + cost h u more) where
    cost_two : (d : ℕ) (s : Strings) (x : Key) → cost h u (two d node s x) ≡ h + h + u + total s + c + total x.strings
    unfolding two cost
    cost_two d s x = go (ltb (first d x.strings) (first d s))
      where
        go : (b : Bool)
            → cost h u (cond b (new_leaf x (node s none)) (node s (new_leaf x none))) ≡ h + h + u + total s + c + total x.strings
        go true = omega (arith, cost_new_leaf x (node s none), own s none)
        go false = omega (arith, cost_new_leaf x none, own s (new_leaf x none))

    -- where the outcomes that agree and that go on grow by a and l, the addition grows as its outcome says
    cost_placed : (above : Above) (s : Strings) (x : Key) (agreed more later : Forest) (a l : ℕ)
        → cost h u agreed ≡ cost h u (node s more) + a → cost h u later ≡ cost h u more + l
        → cost h u (placed above node s x agreed more later)
        ≡ cost h u (node s more) + outcome above s (node s more) x.strings
        a (h + h + u + total (strip (commons s x.strings) x.strings)) (h + u + total x.strings) l
    unfolding outcome split cost remains
    cost_placed above s x agreed more later a l ea el =
        let p = commons s x.strings in
        placed_cases (λ g. cost h u g ≡ cost h u (node s more) + outcome above s (node s more) x.strings
        a (h + h + u + total (strip p x.strings)) (h + u + total x.strings) l) above node s x agreed more later
        (λ m g. rw (m, g) ea)
        (λ m g. rw (m, g) (omega (
          arith,
          cost_two (differing above (strip p s)) (strip p s) (remains p x),
          total_strip p s (commons_left s x.strings),
          own s more,
        )))
        (λ m b. rw (m, b) (omega (arith, cost_new_leaf x (node s more))))
        (λ m b. rw (m, b) (omega (arith, el, own s later, own s more)))

  -- ONE ADDITION, to the byte
  pub cost_added : (above : Above) (f : Forest) (x : Key) → cost h u (added above f x) ≡ cost h u f + growth h u above f x
  unfolding added cost growth sum remains
  cost_added above none x = omega (arith, cost_new_leaf x none)
  cost_added above (leaf s ts more) x =
      cost_placed (λ s' m. leaf s' ts m) (sum (λ t. u + total t.strings) ts) (λ s' m. refl)
      above s x (leaf s (ts ++ (remains s x ∷ [])) more) more (added above more x) (u + total (strip s x.strings))
      (growth h u above more x)
      (omega (arith, sum_append (λ t. u + total t.strings) ts (remains s x ∷ [])))
      (cost_added above more x)
  cost_added above (inner d s children more) x =
      cost_placed (λ s' m. inner d s' children m) (cost h u children) (λ s' m. refl)
      above s x (inner d s (added (below d) children (remains s x)) more) more (added above more x)
      (growth h u (below d) children (remains s x)) (growth h u above more x)
      (omega (arith, cost_added (below d) children (remains s x)))
      (cost_added above more x)
