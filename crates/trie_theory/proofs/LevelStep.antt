-- The choice of a dimension (Definition 7), and the recursion of a level without a bound on its depth: what a builder does
-- at each set.
use Prim.Native.Nat.{ℕ, zero, suc, ◌≤◌, ◌<◌}
use mathlib.Core.Path.{◌≡◌, refl, sym, ap, ◌∙◌}
use mathlib.Core.Bool.{Bool, true, false, cond}
use mathlib.Core.Option.{Option, none, some}
use mathlib.Core.List.{List, [], ◌∷◌}
use native.Mathlib.Omega.{arith}
use lib.ListN.{length}
use lib.Dec.{ltb}
use borrow.Author.Tests.{ltb-true, lt-ltb, le-ltb}
use Rattle.trie_theory.specs.Forest.{Strings, Key, Forest, leaf, inner}
use Rattle.buffer.specs.Lists.{All, nil, cons}
use Rattle.trie_theory.specs.Strings.{strip}
use Rattle.trie_theory.specs.Dimensions.{Above, below, wanted, turn}
use Rattle.trie_theory.specs.Position.{shared, differ}
use Rattle.trie_theory.specs.Parts.{parts}
use Rattle.trie_theory.specs.Level.{choice, node, each, grow, trie}
use Rattle.buffer.proofs.Lists.{all_imp}
use Rattle.trie_theory.proofs.Round.{not_some, turn_passes, turn_none, turn_inside}
use Rattle.trie_theory.proofs.Parts.{parts_short}

-- the children of keys that are partitioned in dimension d
abbrev pub children : ℕ → ℕ → ℕ → List Key → ℕ → Forest
children n τ f ks d = each (grow n τ f (below d) (shared ks)) (parts d ks)

module _ (n τ : ℕ) (above : Above) (ks : List Key) where
  -- where a dimension is chosen there are more than τ keys, and it is the turn's
  chosen_by : (d : ℕ) → choice n τ above ks ≡ some d → (τ < length ks) × (turn (λ d. differ d ks) n above ≡ some d)
  unfolding choice
  chosen_by d = go (ltb τ (length ks)) refl
    where
      go : (t : Bool) → ltb τ (length ks) ≡ t → cond t (turn (λ d. differ d ks) n above) none ≡ some d
          → (τ < length ks) × (turn (λ d. differ d ks) n above ≡ some d)
      go true e h = (ltb-true τ (length ks) e, h)
      go false e h = absurd (not_some d h)

  -- the keys differ in the dimension chosen
  pub choice_differ : (d : ℕ) → choice n τ above ks ≡ some d → differ d ks ≡ true
  choice_differ d e = turn_passes (λ d. differ d ks) n above d (chosen_by d e).1

  -- there are more than τ (no proof cites it, nor choice_none below: they say when a level branches)
  pub choice_many : (d : ℕ) → choice n τ above ks ≡ some d → τ < length ks
  choice_many d e = (chosen_by d e).0

  -- it is one of the n
  pub choice_inside : (d : ℕ) → wanted n above < n → choice n τ above ks ≡ some d → d < n
  choice_inside d l e = turn_inside (λ d. differ d ks) n above d l (chosen_by d e).1

  -- A LEAF of more than τ keys has keys that differ in no dimension
  pub choice_none : wanted n above < n → choice n τ above ks ≡ none → τ < length ks → (d : ℕ) → d < n → differ d ks ≡ false
  unfolding choice
  choice_none l h m d u = turn_none (λ d. differ d ks) n above l (rw (lt-ltb τ (length ks) m) at h) d u

-- no keys are not partitioned
pub choice_empty : (n τ : ℕ) (above : Above) → choice n τ above [] ≡ none
unfolding choice
choice_empty n τ above = rw (le-ltb τ 0 (omega arith))

each_same : {g h : List Key → Forest → Forest} {ps : List (List Key)} → All (λ q. (more : Forest) → g q more ≡ h q more) ps
    → each g ps ≡ each h ps
unfolding each
each_same nil = refl
each_same {g} {h} (cons {x = q} {xs = ps} e a) = e (each g ps) ∙ ap (h q) (each_same a)

-- a node is the same with the same children
node_same : (k : Strings) (ks : List Key) (g h : ℕ → Forest) (more : Forest) (o : Option ℕ) → ((d : ℕ) → o ≡ some d → g d ≡ h d)
    → node k ks o g more ≡ node k ks o h more
unfolding node
node_same k ks g h more none e = refl
node_same k ks g h more (some d) e = ap (λ (f : Forest). inner d (strip k (shared ks)) f more) (e d refl)

module _ (n τ : ℕ) where
  grow_empty : (f : ℕ) (above : Above) (k : Strings) (more : Forest) → grow n τ f above k [] more ≡ leaf (strip k []) [] more
  unfolding grow node shared
  grow_empty zero above k more = refl
  grow_empty (suc f) above k more = rw (choice_empty n τ above)

  -- the bound is never met: any two that are as large as the number of keys give the same
  grow_same : (f g : ℕ) (above : Above) (k : Strings) (ks : List Key) → length ks ≤ f → length ks ≤ g → (more : Forest)
      → grow n τ f above k ks more ≡ grow n τ g above k ks more
  unfolding grow
  grow_same zero g above k [] l m more = grow_empty zero above k more ∙ sym (grow_empty g above k more)
  grow_same zero g above k (x ∷ xs) l m more = absurd (omega arith)
  grow_same (suc f) g above k [] l m more = grow_empty (suc f) above k more ∙ sym (grow_empty g above k more)
  grow_same (suc f) zero above k (x ∷ xs) l m more = absurd (omega arith)
  grow_same (suc f) (suc g) above k (x ∷ xs) l m more =
      node_same k (x ∷ xs) (children n τ f (x ∷ xs)) (children n τ g (x ∷ xs)) more (choice n τ above (x ∷ xs))
      (λ d e. each_same
      (all_imp (λ q s. grow_same f g (below d) (shared (x ∷ xs)) q (omega arith) (omega arith))
      (parts_short d x xs (choice_differ n τ above (x ∷ xs) d e))))

  -- THE STEP: a set is one node; its children are the tries of its parts, the next dimension wanted
  pub trie_step : (above : Above) (k : Strings) (ks : List Key) (more : Forest)
      → trie n τ above k ks more ≡ node k ks (choice n τ above ks) (λ d. each (trie n τ (below d) (shared ks)) (parts d ks)) more
  unfolding trie grow node
  trie_step above k [] more = rw (choice_empty n τ above)
  trie_step above k (x ∷ xs) more =
      let ks : List Key = x ∷ xs in
      node_same k ks (children n τ (length xs) ks) (λ d. each (trie n τ (below d) (shared ks)) (parts d ks)) more (choice n τ above ks)
      (λ d e. each_same
      (all_imp (λ q s. grow_same (length xs) (length q) (below d) (shared ks) q (omega arith) (omega arith))
      (parts_short d x xs (choice_differ n τ above ks d e))))
