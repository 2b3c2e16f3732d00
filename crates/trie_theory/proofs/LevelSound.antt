-- A level is sound and its siblings ascend: a part's shared bytes go on with the part's byte, the parts' bytes ascend, and
-- keys that differ have two parts.
use Prim.Native.Nat.{ℕ, zero, suc, ◌≤◌, ◌<◌}
use mathlib.Core.Path.{◌≡◌, refl, ap, ◌∙◌}
use mathlib.Core.Bool.{true}
use mathlib.Core.Option.{Option, none, some}
use mathlib.Core.List.{List, [], ◌∷◌}
use native.Mathlib.Omega.{arith}
use lib.ListN.{length}
use lib.Dec.{ltb}
use borrow.Author.Tests.{lt-ltb}
use Rattle.trie_theory.specs.Forest.{Strings, Key, Forest, tops}
use Rattle.buffer.specs.Lists.{All, nil, cons}
use Rattle.trie_theory.specs.Strings.{strip, remains, first}
use Rattle.trie_theory.specs.Dimensions.{Above, root, below, branching}
use Rattle.trie_theory.specs.Position.{shared}
use Rattle.trie_theory.specs.Parts.{parts}
use Rattle.trie_theory.specs.Level.{choice, node, each, grow, trie, level_of}
use Rattle.trie_theory.specs.SmallTrie.{precedes}
use Rattle.trie_theory.specs.Sound.{Starts, Wide, Node, Sound, Ascending}
use Rattle.buffer.proofs.Lists.{all_imp, all_both, all_map, all_test}
use Rattle.trie_theory.proofs.Prefix.{From, shared_all}
use Rattle.trie_theory.proofs.Strings.{length_strip, length_shared, first_some}
use Rattle.trie_theory.proofs.Round.{not_some}
use Rattle.trie_theory.proofs.Parts.{Partition, done, part, partition, part_first, parts_two, differ_inside}
use Rattle.trie_theory.proofs.LevelStep.{children, choice_differ}

-- sound and ascending
abbrev pub Well : ℕ → Above → Forest → Type 0
Well n above f = Sound n above f × Ascending above f

-- the branching byte of s is below those of all tries side by side
abbrev pub Below : Above → Strings → Forest → Type 0
Below above s f = All (λ t. branching above s < branching above t) (tops f)

module _ (n τ : ℕ) where
  -- a node before siblings whose bytes are above its own, an inner one if its children are well and two
  node_well : (above : Above) (k : Strings) (x : Key) (xs : List Key) (o : Option ℕ) (children : ℕ → Forest) (more : Forest)
      → All (Wide n) (x ∷ xs)
      → Starts above (strip k (shared (x ∷ xs))) → Below above (strip k (shared (x ∷ xs))) more → Well n above more
      → ((d : ℕ) → o ≡ some d → (2 ≤ length (tops (children d))) × Well n (below d) (children d))
      → Well n above (node k (x ∷ xs) o children more)
  unfolding node Sound Ascending precedes remains
  node_well above k x xs o children more w s b m ih = go o ih
    where
      p : Strings
      p = strip k (shared (x ∷ xs))

      own : Node n above p more
      own = record {
        wide = length_strip k (shared (x ∷ xs)) ∙ length_shared n w;
        starts = s;
        apart = all_imp (λ t l e. omega arith) b;
      }

      before : precedes above p more ≡ true
      before =
          all_test (λ t. ltb (branching above p) (branching above t)) (all_imp (λ t l. lt-ltb (branching above p) (branching above t) l) b)

      go : (o : Option ℕ) → ((d : ℕ) → o ≡ some d → (2 ≤ length (tops (children d))) × Well n (below d) (children d))
          → Well n above (node k (x ∷ xs) o children more)
      go none ih = (
        (own, omega arith, all_map (remains (shared (x ∷ xs))) (λ y e. length_strip (shared (x ∷ xs)) y.strings ∙ e) w, m.0),
        (before, m.1),
      )
      go (some d) ih = let r = ih d refl in ((own, r.0, r.1.0, m.0), (before, r.1.1, m.1))

  grow_tops : (f : ℕ) (above : Above) (k : Strings) (ks : List Key) (more : Forest)
      → tops (grow n τ f above k ks more) ≡ strip k (shared ks) ∷ tops more
  unfolding grow node tops
  grow_tops zero above k ks more = refl
  grow_tops (suc f) above k ks more = go (choice n τ above ks)
    where
      go : (o : Option ℕ) → tops (node k ks o (children n τ f ks) more) ≡ strip k (shared ks) ∷ tops more
      go none = refl
      go (some d) = refl

  module _ (f d : ℕ) (p : Strings) (inside : d < length p) where
    each_two : (ps : List (List Key)) → length (tops (each (grow n τ f (below d) p) ps)) ≡ length ps
    unfolding each tops
    each_two [] = refl
    each_two (q ∷ ps) = ap length (grow_tops f (below d) p q (each (grow n τ f (below d) p) ps)) ∙ ap suc (each_two ps)

    -- the bytes of the children of parts from b on are from b on
    each_from : {b : ℕ} {ps : List (List Key)} → Partition d p (λ y. From p y × Wide n y) b ps
        → All (λ t. b ≤ first d t) (tops (each (grow n τ f (below d) p) ps))
    unfolding each tops
    each_from done = nil
    each_from {b} (part {x = x} {xs = xs} {ps = ps} c l u a r) =
        let e = part_first d c p inside u (all_imp (λ y q. (q.0.0, q.1)) a) in
        rw (grow_tops f (below d) p (x ∷ xs) (each (grow n τ f (below d) p) ps))
        (cons {x = strip p (shared (x ∷ xs))} (omega arith) (all_imp (λ t m. omega arith) (each_from r)))

    each_well : {b : ℕ} {ps : List (List Key)}
        → ((x : Key) (xs : List Key) (more : Forest) → All (Wide n) (x ∷ xs) → Starts (below d) (strip p (shared (x ∷ xs)))
        → Below (below d) (strip p (shared (x ∷ xs))) more → Well n (below d) more
        → Well n (below d) (grow n τ f (below d) p (x ∷ xs) more))
        → Partition d p (λ y. From p y × Wide n y) b ps → Well n (below d) (each (grow n τ f (below d) p) ps)
    unfolding each Sound Ascending Starts branching
    each_well ih done = (tt, tt)
    each_well ih (part {x = x} {xs = xs} {ps = ps} c l u a r) =
        let e = part_first d c p inside u (all_imp (λ y q. (q.0.0, q.1)) a) in
        ih x xs (each (grow n τ f (below d) p) ps) (all_imp (λ y q. q.0.1) a)
        (first_some d (strip p (shared (x ∷ xs))) (omega arith))
        (all_imp (λ t m. omega arith) (each_from r))
        (each_well ih r)

  grow_well : (f : ℕ) (above : Above) (k : Strings) (x : Key) (xs : List Key) (more : Forest) → All (Wide n) (x ∷ xs)
      → Starts above (strip k (shared (x ∷ xs))) → Below above (strip k (shared (x ∷ xs))) more → Well n above more
      → Well n above (grow n τ f above k (x ∷ xs) more)
  unfolding grow
  grow_well zero above k x xs more w s b m =
      node_well above k x xs none (λ d. Forest.none) more w s b m (λ d e. absurd (not_some d e))
  grow_well (suc f) above k x xs more w s b m =
      let ks : List Key = x ∷ xs in
      let p = shared ks in
      node_well above k x xs (choice n τ above ks) (children n τ f ks) more w s b m
      (λ d e. let q = choice_differ n τ above ks d e in
      let i = differ_inside d x xs q in (
        (let t = parts_two d x xs q in omega (arith, each_two f d p i (parts d ks))),
        each_well f d p i (grow_well f (below d) p) (partition (λ y. From p y × Wide n y) d (all_both (shared_all ks) w)),
      ))

  -- A LEVEL IS SOUND AND ASCENDS
  pub level_well : (ks : List Key) → All (Wide n) ks → Well n root (level_of n τ ks)
  unfolding level_of trie Starts Sound Ascending tops
  level_well [] w = (tt, tt)
  level_well (x ∷ xs) w = grow_well (length (x ∷ xs)) root [] x xs Forest.none w tt nil (tt, tt)
