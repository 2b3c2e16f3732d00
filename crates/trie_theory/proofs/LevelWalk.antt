-- THE NODES OF A KEY IN ITS LEVEL are its partitioning sequence (Definition 7), with the positions of Definition 5: x goes into
-- the part that has its byte, and passes over the others, since their shared bytes go on with another byte.
use Prim.Native.Nat.{ℕ, zero, suc, ◌+◌, ◌≤◌, ◌<◌}
use mathlib.Core.Path.{◌≡◌, refl, sym, ap, ap₂, ◌∙◌}
use mathlib.Core.Bool.{Bool, true, false, cond}
use mathlib.Core.Option.{Option, none, some}
use mathlib.Core.List.{List, [], ◌∷◌, map}
use native.Mathlib.Omega.{arith}
use lib.ListN.{length, get_or, length-map}
use lib.Dec.{eqb}
use borrow.Author.Tests.{eqb-true, eqb-false, eq-eqb}
use Rattle.trie_theory.specs.Forest.{Strings, Key, Forest, keys}
use Rattle.buffer.specs.Lists.{All}
use Rattle.trie_theory.specs.Strings.{all_begin, remains}
use Rattle.trie_theory.specs.Dimensions.{Above, root, below}
use Rattle.trie_theory.specs.Position.{shared, byte, position, differ}
use Rattle.trie_theory.specs.Parts.{keep, filled, parts_from, parts}
use Rattle.trie_theory.specs.Level.{choice, node, each, grow, trie, level_of}
use Rattle.trie_theory.specs.Walk.{Step, step_at, kind_of, follow, sequence, route, walk}
use Rattle.buffer.proofs.Lists.{In, at_head, later, all_imp, all_head, all_in, all_pick, all_both, all_every, in_pick}
use Rattle.buffer.proofs.Tests.{not-true}
use Rattle.buffer.proofs.Sums.{equal_length}
use Rattle.trie_theory.proofs.Prefix.{Prefixes, From, shared_all, shared_greatest, prefixes_all_begin, all_begin_prefixes, prefixes_trans}
use Rattle.trie_theory.proofs.Strings.{join_strip}
use Rattle.trie_theory.proofs.Parts.{differ_all, differ_inside, extend, extend_in, extend_out}
use Rattle.trie_theory.proofs.LevelStep.{children, choice_differ}
use Rattle.trie_theory.proofs.LevelKept.{children_sum}

-- two sides of a test
on_true : {A : Type 0} (w : Bool) (a b : A) → w ≡ true → cond w a b ≡ a
on_true w a b e = rw e

on_false : {A : Type 0} (w : Bool) (a b : A) → w ≡ false → cond w a b ≡ b
on_false w a b e = rw e

-- what begins every key of a list with a key in it begins their shared bytes
shared_in : (p : Strings) {x : Key} {ks : List Key} → In x ks → All (From p) ks → Prefixes p (shared ks)
shared_in p at_head a = shared_greatest p a
shared_in p (later i) a = shared_greatest p a

module _ (x : Key) (k : Strings) (ks : List Key) (more : Forest) (above : Prefixes k (shared ks)) where
  -- a node with whose bytes x does not go on is passed over
  node_skip : (o : Option ℕ) (children : ℕ → Forest) → all_begin (shared ks) x.strings ≡ false
      → walk k (node k ks o children more) x ≡ walk k more x
  unfolding node walk
  node_skip none children e = on_false _ _ _ (ap (λ (l : Strings). all_begin l x.strings) (join_strip k (shared ks) above) ∙ e)
  node_skip (some d) children e = on_false _ _ _ (ap (λ (l : Strings). all_begin l x.strings) (join_strip k (shared ks) above) ∙ e)

  leaf_enter : (children : ℕ → Forest) → From (shared ks) x
      → walk k (node k ks none children more) x ≡ step_at (shared ks) (length ks) 0 ∷ []
  unfolding node walk
  leaf_enter children h =
      rw (join_strip k (shared ks) above)
      (on_true _ _ _ (prefixes_all_begin (shared ks) x.strings h)
      ∙ ap (λ (m : ℕ). step_at (shared ks) m 0 ∷ []) (length-map ks (remains (shared ks))))

  inner_enter : (d : ℕ) (children : ℕ → Forest) → From (shared ks) x
      → walk k (node k ks (some d) children more) x
      ≡ step_at (shared ks) (length (keys (shared ks) (children d))) (suc d) ∷ walk (shared ks) (children d) x
  unfolding node walk
  inner_enter d children h = rw (join_strip k (shared ks) above) (on_true _ _ _ (prefixes_all_begin (shared ks) x.strings h))

module _ (x : Key) (d : ℕ) (p : Strings) (g : List Key → Forest → Forest) (ks : List Key) (r : List Step) (i : In x ks)
    (own : (more : Forest) → walk p (g (keep d p (byte d p x) ks) more) x ≡ r)
    (other : (c : ℕ) (y : Key) (ys : List Key) (more : Forest) → (byte d p x ≡ c → ⊥) → keep d p c ks ≡ y ∷ ys
    → walk p (g (y ∷ ys) more) x ≡ walk p more x) where
  enter : {xs : List Key} → In x xs → ((more : Forest) → walk p (g xs more) x ≡ r) → (ps : List (List Key))
      → walk p (each g (filled xs ps)) x ≡ r
  unfolding filled each
  enter at_head h ps = h (each g ps)
  enter (later j) h ps = h (each g ps)

  pass : (b : ℕ) → (byte d p x ≡ b → ⊥) → (xs : List Key) → keep d p b ks ≡ xs → (ps : List (List Key))
      → walk p (each g (filled xs ps)) x ≡ walk p (each g ps) x
  unfolding filled each
  pass b n [] e ps = refl
  pass b n (y ∷ ys) e ps = other b y ys (each g ps) n e

  in_keep : (b : ℕ) → byte d p x ≡ b → In x (keep d p b ks)
  unfolding keep
  in_keep b e = in_pick (λ y. eqb (byte d p y) b) (eq-eqb (byte d p x) b e) i

  -- x goes into the part that has its byte
  each_walk : (f b : ℕ) → b ≤ byte d p x → byte d p x < b + f → walk p (each g (parts_from d p f b ks)) x ≡ r
  unfolding parts_from
  each_walk zero b l u = absurd (omega arith)
  each_walk (suc f) b l u = go (eqb (byte d p x) b) refl (each_walk f (suc b))
    where
      go : (w : Bool) → eqb (byte d p x) b ≡ w
          → (suc b ≤ byte d p x → byte d p x < suc b + f → walk p (each g (parts_from d p f (suc b) ks)) x ≡ r)
          → walk p (each g (filled (keep d p b ks) (parts_from d p f (suc b) ks))) x ≡ r
      go true e ih =
          let q = eqb-true (byte d p x) b e in
          enter (in_keep b q) (λ more. ap (λ (c : ℕ). walk p (g (keep d p c ks) more) x) (sym q) ∙ own more) (parts_from d p f (suc b) ks)
      go false e ih =
          let q = eqb-false (byte d p x) b e in
          pass b q (keep d p b ks) refl (parts_from d p f (suc b) ks) ∙ ih (omega arith) (omega arith)

-- the part of ks that has x, partitioned in d
abbrev part_of : Key → ℕ → List Key → List Key
part_of x d ks = keep d (shared ks) (byte d (shared ks) x) ks

module _ (n τ : ℕ) (x : Key) where
  grow_skip : (f : ℕ) (above : Above) (k : Strings) (ks : List Key) (more : Forest) → Prefixes k (shared ks)
      → all_begin (shared ks) x.strings ≡ false
      → walk k (grow n τ f above k ks more) x ≡ walk k more x
  unfolding grow
  grow_skip zero above k ks more h e = node_skip x k ks more h none (λ d. Forest.none) e
  grow_skip (suc f) above k ks more h e = node_skip x k ks more h (choice n τ above ks) _ e

  -- x does not go on with the bytes of a part that has another byte
  part_skip : (d c : ℕ) (p : Strings) (y : Key) (ys : List Key) → d < length p → c < 256 → (byte d p x ≡ c → ⊥)
      → All (λ z. From p z × (byte d p z ≡ c)) (y ∷ ys) → all_begin (shared (y ∷ ys)) x.strings ≡ false
  unfolding byte
  part_skip d c p y ys i u ne a =
      not-true (all_begin (shared (y ∷ ys)) x.strings)
      (λ e. ne (extend_out d c p x.strings i
      (prefixes_trans (extend d c p) (shared (y ∷ ys)) x.strings
      (shared_greatest (extend d c p) (all_imp (λ z q. extend_in d c p z.strings u q.0 q.1) a))
      (all_begin_prefixes (shared (y ∷ ys)) x.strings e))))

  -- the keys of ks with byte c
  kept_all : (d c : ℕ) (ks : List Key) → differ d ks ≡ true
      → All (λ z. (From (shared ks) z × (byte d (shared ks) z < 256)) × (byte d (shared ks) z ≡ c)) (keep d (shared ks) c ks)
  unfolding keep
  kept_all d c ks e =
      all_imp (λ z q. (q.0, eqb-true (byte d (shared ks) z) c q.1))
      (all_pick (λ z. eqb (byte d (shared ks) z) c) (all_both (shared_all ks) (differ_all d ks e)))

  differ_in : (d : ℕ) {ks : List Key} → In x ks → differ d ks ≡ true → d < length (shared ks)
  differ_in d (at_head {xs = xs}) e = differ_inside d x xs e
  differ_in d (later {y = y} {xs = xs} i) e = differ_inside d y xs e

  children_walk : (f : ℕ) (above : Above) (d : ℕ) (ks : List Key) (r : List Step) → In x ks → choice n τ above ks ≡ some d
      → ((more : Forest) → All (From (shared ks)) (part_of x d ks) → In x (part_of x d ks)
      → walk (shared ks) (grow n τ f (below d) (shared ks) (part_of x d ks) more) x ≡ r)
      → walk (shared ks) (children n τ f ks d) x ≡ r
  unfolding parts keep
  children_walk f above d ks r i q ih =
      let p = shared ks in
      let e = choice_differ n τ above ks d q in
      each_walk x d p (grow n τ f (below d) p) ks r i
      (λ more. ih more (all_imp (λ z q. q.0.0) (kept_all d (byte d p x) ks e))
      (in_pick (λ y. eqb (byte d p y) (byte d p x)) (eq-eqb (byte d p x) (byte d p x) refl) i))
      (λ c y ys more ne k.
      let a : All (λ z. (From p z × (byte d p z < 256)) × (byte d p z ≡ c)) (y ∷ ys) = rw k at (kept_all d c ks e) in
      let h = all_head a in
      let own : All (λ z. From p z × (byte d p z ≡ c)) (y ∷ ys) = all_imp (λ z q. (q.0.0, q.1)) a in
      let u : c < 256 = let l = h.0.1 in let m = h.1 in omega arith in
      grow_skip f (below d) p (y ∷ ys) more (shared_greatest p (all_imp (λ z q. q.0) own))
      (part_skip d c p y ys (differ_in d i e) u ne own))
      256 0 (omega arith) (all_in (differ_all d ks e) i)

  grow_walk : (f : ℕ) (above : Above) (k : Strings) (ks : List Key) (more : Forest) → All (From k) ks → In x ks
      → walk k (grow n τ f above k ks more) x ≡ sequence n τ f above ks x
  unfolding grow sequence kind_of follow
  grow_walk zero above k ks more a i = leaf_enter x k ks more (shared_in k i a) (λ d. Forest.none) (all_in (shared_all ks) i)
  grow_walk (suc f) above k ks more a i = go (choice n τ above ks) refl (λ d. grow_walk f (below d) p (part_of x d ks))
    where
      p : Strings
      p = shared ks

      go : (o : Option ℕ) → choice n τ above ks ≡ o
          → ((d : ℕ) (more : Forest) → All (From p) (part_of x d ks) → In x (part_of x d ks)
          → walk p (grow n τ f (below d) p (part_of x d ks) more) x ≡ sequence n τ f (below d) (part_of x d ks) x)
          → walk k (node k ks o (children n τ f ks) more) x
          ≡ step_at p (length ks) (kind_of o) ∷ follow o (λ d. sequence n τ f (below d) (part_of x d ks) x)
      go none q ih = leaf_enter x k ks more (shared_in k i a) (children n τ f ks) (all_in (shared_all ks) i)
      go (some d) q ih =
          inner_enter x k ks more (shared_in k i a) d (children n τ f ks) (all_in (shared_all ks) i)
          ∙ ap₂ (λ (m : ℕ) (l : List Step). step_at p m (suc d) ∷ l)
          (equal_length (keys p (children n τ f ks d)) ks (λ h. children_sum n τ h f above d ks q))
          (children_walk f above d ks (sequence n τ f (below d) (part_of x d ks) x) i q (ih d))

pub level_walk : (n τ : ℕ) (ks : List Key) (x : Key) → In x ks → walk [] (level_of n τ ks) x ≡ route n τ root ks x
unfolding level_of trie route Prefixes
level_walk n τ [] x i = elim i [ ]
level_walk n τ (y ∷ ys) x i = grow_walk n τ x (length (y ∷ ys)) root [] (y ∷ ys) Forest.none (all_every (y ∷ ys) (λ z. tt)) i

-- its positions are those of Definition 5
pub step_position : (ks : List Key) (m t d : ℕ) → d < length (shared ks)
    → get_or (step_at (shared ks) m t).positions d 0 ≡ position d ks
unfolding step_at position
step_position ks m t d l = go (shared ks) d l
  where
    go : (p : Strings) (d : ℕ) → d < length p → get_or (map (λ s. suc (length s)) p) d 0 ≡ length (get_or p d []) + 1
    go [] d l = absurd (omega arith)
    go (s ∷ p) zero l = omega arith
    go (s ∷ p) (suc d) l = go p d (omega arith)
