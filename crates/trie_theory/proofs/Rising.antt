-- In each leaf the values do not descend. A level takes its keys in a sequence in which they rise: a part keeps that sequence, and
-- a leaf strips the same bytes from values of one length. In a small trie no suffix has a byte.
use Prim.Native.Nat.{ℕ, zero, suc, ◌+◌, ◌*◌, ◌-◌, ◌^◌, ◌≤◌}
use mathlib.Core.Path.{◌≡◌, ap, ◌∙◌}
use mathlib.Core.Bool.{Bool, true, false, cond}
use mathlib.Core.Option.{Option, none, some}
use mathlib.Core.List.{List, [], ◌∷◌, map}
use native.Mathlib.Omega.{arith}
use lib.ListN.{length, length-append}
use lib.Dec.{eqb}
use Rattle.trie_theory.specs.Forest.{Strings, Key, Forest, leaf, inner}
use Rattle.buffer.specs.Lists.{All, nil, cons, pick}
use Rattle.buffer.specs.Numbers.{number}
use Rattle.trie_theory.specs.Strings.{strip, remains, at, total}
use Rattle.trie_theory.specs.Dimensions.{Above, root, below}
use Rattle.trie_theory.specs.Position.{shared, byte}
use Rattle.trie_theory.specs.Parts.{keep, filled, parts_from, parts}
use Rattle.trie_theory.specs.Level.{choice, node, each, grow, trie, level_of}
use Rattle.trie_theory.specs.Sound.{EmptySuffixes, Rising, LeavesRise}
use Rattle.buffer.proofs.Lists.{no_items, all_imp, all_both, all_map, all_pick}
use Rattle.buffer.proofs.Digits.{number_append}
use Rattle.trie_theory.proofs.Prefix.{From, shared_all}
use Rattle.trie_theory.proofs.Strings.{at_total}
use Rattle.trie_theory.proofs.Free.{at_split}
use Rattle.trie_theory.proofs.LevelStep.{children}

-- ---- keys in sequence

-- one more in front, its value not above the first
pub rising_front : (x y : Key) (ys : List Key) → number (at 0 x.strings) ≤ number (at 0 y.strings) → Rising (y ∷ ys)
    → Rising (x ∷ y ∷ ys)
unfolding Rising
rising_front x y ys l r = (cons l (all_imp (λ z m. omega arith) r.0), r)

rising_pick : (t : Key → Bool) (ks : List Key) → Rising ks → Rising (pick t ks)
unfolding Rising pick
rising_pick t [] r = tt
rising_pick t (x ∷ xs) r = go (t x) (rising_pick t xs r.1)
  where
    go : (b : Bool) → Rising (pick t xs) → Rising (cond b (x ∷ pick t xs) (pick t xs))
    go true i = (all_imp (λ y q. q.0) (all_pick t r.0), i)
    go false i = i

module _ (w : ℕ) where
  -- a value of w bytes
  abbrev pub ValueOf : Key → Type 0
  ValueOf x = length (at 0 x.strings) ≡ w

  -- keys whose values rise, all of one length
  abbrev InSequence : List Key → Type 0
  InSequence ks = Rising ks × All ValueOf ks

  -- a value is the number of the bytes p in front of what remains
  value_split : (p : Strings) (x : Key) → From p x → ValueOf x
      → number (at 0 x.strings) ≡ number (at 0 p) * 256 ^ (w - length (at 0 p)) + number (at 0 (strip p x.strings))
  value_split p x f e =
      let s = at_split 0 p x.strings f in
      let rest = at 0 (strip p x.strings) in
      let l : length rest ≡ w - length (at 0 p) = omega (arith, ap length s, length-append (at 0 p) rest) in
      rw l at (ap number s ∙ number_append (at 0 p) rest)

  -- WHAT REMAINS of keys behind bytes with which all begin
  rising_remains : (p : Strings) {ks : List Key} → All (From p) ks → All ValueOf ks → Rising ks → Rising (map (remains p) ks)
  unfolding Rising remains
  rising_remains p nil a r = tt
  rising_remains p (cons {x = x} f fs) (cons e es) r =
      let v = value_split p x f e in
      (all_map (remains p) (λ y q. omega (arith, value_split p y q.1.0 q.1.1)) (all_both r.0 (all_both fs es)), rising_remains p fs es r.1)

  in_sequence_pick : (t : Key → Bool) (ks : List Key) → InSequence ks → InSequence (pick t ks)
  in_sequence_pick t ks r = (rising_pick t ks r.0, all_imp (λ y q. q.0) (all_pick t r.1))

  -- each part of keys is picked from them
  parts_in_sequence : (d : ℕ) (p : Strings) (f b : ℕ) (ks : List Key) → InSequence ks → All InSequence (parts_from d p f b ks)
  unfolding parts_from keep filled
  parts_in_sequence d p zero b ks r = nil
  parts_in_sequence d p (suc f) b ks r =
      go (pick (λ x. eqb (byte d p x) b) ks) (in_sequence_pick (λ x. eqb (byte d p x) b) ks r) (parts_in_sequence d p f (suc b) ks r)
    where
      go : (xs : List Key) → InSequence xs → All InSequence (parts_from d p f (suc b) ks) → All InSequence (filled xs (parts_from d p f (suc b) ks))
      go [] q rest = rest
      go (x ∷ xs) q rest = cons {x = x ∷ xs} q rest

  -- ---- tries of such keys

  each_rises : (g : List Key → Forest → Forest) → ((ks : List Key) (more : Forest) → InSequence ks → LeavesRise more → LeavesRise (g ks more))
      → {ps : List (List Key)} → All InSequence ps → LeavesRise (each g ps)
  unfolding each LeavesRise
  each_rises g ih nil = tt
  each_rises g ih (cons {x = q} {xs = ps} r a) = ih q (each g ps) r (each_rises g ih a)

  -- a node, an inner one if its children's leaves rise
  node_rises : (k : Strings) (ks : List Key) (o : Option ℕ) (children : ℕ → Forest) (more : Forest) → InSequence ks
      → ((d : ℕ) → LeavesRise (children d)) → LeavesRise more → LeavesRise (node k ks o children more)
  unfolding node LeavesRise
  node_rises k ks none children more r ih m = (rising_remains (shared ks) (shared_all ks) r.1 r.0, m)
  node_rises k ks (some d) children more r ih m = (ih d, m)

  module _ (n τ : ℕ) where
    grow_rises : (f : ℕ) (above : Above) (k : Strings) (ks : List Key) (more : Forest) → InSequence ks → LeavesRise more
        → LeavesRise (grow n τ f above k ks more)
    unfolding grow parts LeavesRise
    grow_rises zero above k ks more r m = node_rises k ks none (λ d. Forest.none) more r (λ d. tt) m
    grow_rises (suc f) above k ks more r m =
        node_rises k ks (choice n τ above ks) (children n τ f ks) more r
        (λ d. each_rises (grow n τ f (below d) (shared ks)) (grow_rises f (below d) (shared ks)) (parts_in_sequence d (shared ks) 256 0 ks r)) m

    -- IN A LEVEL
    pub level_rises : (ks : List Key) → Rising ks → All ValueOf ks → LeavesRise (level_of n τ ks)
    unfolding level_of trie LeavesRise
    level_rises [] r a = tt
    level_rises (x ∷ xs) r a = grow_rises (length (x ∷ xs)) root [] (x ∷ xs) Forest.none (r, a) tt

-- ---- the small trie

-- a key without a byte has the value 0
valueless : (x : Key) → total x.strings ≡ 0 → number (at 0 x.strings) ≡ 0
unfolding number
valueless x e = ap number (no_items (at 0 x.strings) (omega (arith, at_total 0 x.strings)))

rising_empty : {ts : List Key} → All (λ t. total t.strings ≡ 0) ts → Rising ts
unfolding Rising
rising_empty nil = tt
rising_empty (cons {x = x} e a) = (all_imp (λ y q. omega (arith, valueless x e)) a, rising_empty a)

-- IN A TRIE WHOSE SUFFIXES HAVE NO BYTE
pub empty_rises : (t : Forest) → EmptySuffixes t → LeavesRise t
unfolding EmptySuffixes LeavesRise
empty_rises Forest.none e = tt
empty_rises (leaf s ts more) e = (rising_empty e.0, empty_rises more e.1)
empty_rises (inner d s children more) e = (empty_rises children e.0, empty_rises more e.1)
