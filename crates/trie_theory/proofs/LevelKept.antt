-- NOTHING IS LOST OR ADDED: every key stands in its level as often as in the list that the level was built from.
use Prim.Native.Nat.{ℕ, zero, suc, ◌+◌}
use mathlib.Core.Path.{◌≡◌, refl, sym, ap, ap₂, ◌∙◌}
use mathlib.Core.Option.{Option, none, some}
use mathlib.Core.List.{List, [], ◌∷◌, map}
use native.Mathlib.Omega.{arith}
use lib.ListN.{length}
use Rattle.trie_theory.specs.Forest.{Strings, Key, Forest, under, keys}
use Rattle.buffer.specs.Lists.{All, nil, cons, sum, flat}
use Rattle.trie_theory.specs.Strings.{remains}
use Rattle.trie_theory.specs.Dimensions.{Above, root, below}
use Rattle.trie_theory.specs.Position.{shared}
use Rattle.trie_theory.specs.Level.{choice, node, each, grow, trie, level_of}
use Rattle.buffer.proofs.Lists.{all_imp, all_every}
use Rattle.buffer.proofs.Sums.{sum_append}
use Rattle.trie_theory.proofs.Prefix.{Prefixes, From, shared_all, shared_greatest}
use Rattle.trie_theory.proofs.Strings.{join_strip}
use Rattle.trie_theory.proofs.Keys.{under_remains}
use Rattle.trie_theory.proofs.Parts.{Partition, done, part, partition, sum_parts}
use Rattle.trie_theory.proofs.LevelStep.{children, choice_differ}

unders : (p : Strings) {ks : List Key} → All (From p) ks → map (under p) (map (remains p) ks) ≡ ks
unders p nil = refl
unders p (cons {x = x} h a) = ap₂ ◌∷◌ (under_remains p x h) (unders p a)

module _ (n τ : ℕ) (h : Key → ℕ) where
  -- the tries of parts have the keys of the parts, if each trie has
  each_sum : {d : ℕ} {p : Strings} {b : ℕ} {ps : List (List Key)} (g : List Key → Forest → Forest)
      → ((x : Key) (xs : List Key) (more : Forest) → All (From p) (x ∷ xs)
      → sum h (keys p (g (x ∷ xs) more)) ≡ sum h (x ∷ xs) + sum h (keys p more))
      → Partition d p (From p) b ps → sum h (keys p (each g ps)) ≡ sum h (flat ps)
  unfolding each flat keys sum
  each_sum g ih done = refl
  each_sum g ih (part {x = x} {xs = xs} {ps = ps} c l u a r) =
      ih x xs (each g ps) (all_imp (λ y q. q.0) a) ∙ ap (λ (m : ℕ). sum h (x ∷ xs) + m) (each_sum g ih r)
      ∙ sym (sum_append h (x ∷ xs) (flat ps))

  -- a node has the keys of its set, an inner one if its children have
  node_sum : (k : Strings) (ks : List Key) (o : Option ℕ) (children : ℕ → Forest) (more : Forest) → Prefixes k (shared ks)
      → ((d : ℕ) → o ≡ some d → sum h (keys (shared ks) (children d)) ≡ sum h ks)
      → sum h (keys k (node k ks o children more)) ≡ sum h ks + sum h (keys k more)
  unfolding keys node
  node_sum k ks none children more a ih =
      rw (join_strip k (shared ks) a)
      (sum_append h (map (under (shared ks)) (map (remains (shared ks)) ks)) (keys k more)
      ∙ ap (λ (l : List Key). sum h l + sum h (keys k more)) (unders (shared ks) (shared_all ks)))
  node_sum k ks (some d) children more a ih =
      rw (join_strip k (shared ks) a)
      (sum_append h (keys (shared ks) (children d)) (keys k more) ∙ ap (λ (m : ℕ). m + sum h (keys k more)) (ih d refl))

  grow_sum : (f : ℕ) (above : Above) (k : Strings) (x : Key) (xs : List Key) (more : Forest) → All (From k) (x ∷ xs)
      → sum h (keys k (grow n τ f above k (x ∷ xs) more)) ≡ sum h (x ∷ xs) + sum h (keys k more)
  unfolding grow
  grow_sum zero above k x xs more a =
      node_sum k (x ∷ xs) none (λ d. Forest.none) more (shared_greatest k a) (λ d e. absurd (let z : ◌≡◌ {A = ℕ} 0 1 = cc in omega arith))
  grow_sum (suc f) above k x xs more a =
      let ks : List Key = x ∷ xs in
      node_sum k ks (choice n τ above ks) (children n τ f ks) more (shared_greatest k a)
      (λ d e. each_sum (grow n τ f (below d) (shared ks)) (grow_sum f (below d) (shared ks)) (partition (From (shared ks)) d (shared_all ks))
      ∙ sum_parts h d ks (choice_differ n τ above ks d e))

  -- the children of a set have its keys
  pub children_sum : (f : ℕ) (above : Above) (d : ℕ) (ks : List Key) → choice n τ above ks ≡ some d
      → sum h (keys (shared ks) (children n τ f ks d)) ≡ sum h ks
  children_sum f above d ks e =
      each_sum (grow n τ f (below d) (shared ks)) (grow_sum f (below d) (shared ks)) (partition (From (shared ks)) d (shared_all ks))
      ∙ sum_parts h d ks (choice_differ n τ above ks d e)

  pub level_sum : (ks : List Key) → sum h (keys [] (level_of n τ ks)) ≡ sum h ks
  unfolding level_of trie keys sum Prefixes
  level_sum [] = refl
  level_sum (x ∷ xs) = grow_sum (length (x ∷ xs)) root [] x xs Forest.none (all_every (x ∷ xs) (λ y. tt)) ∙ omega arith
