-- One path and value per leaf: no suffix has a byte left, if no held string is a proper beginning of the new key's. So a
-- small trie of complete keys stays one.
use Prim.Native.Nat.{ℕ, suc, ◌≤◌}
use mathlib.Core.Path.{◌≡◌, refl, sym, ap, subst, ◌∙◌}
use mathlib.Core.Bool.{Bool, true, false, cond}
use mathlib.Core.List.{List, [], ◌∷◌, ◌++◌, map, append-nil}
use native.Mathlib.Omega.{arith}
use lib.ListN.{length}
use lib.Dec.{ltb}
use Rattle.trie_theory.specs.Forest.{Strings, Key, Forest, none, leaf, inner, join, under, keys}
use Rattle.buffer.specs.Lists.{All, nil, cons, sum}
use Rattle.trie_theory.specs.Strings.{all_begin, commons, strip, remains, at, first, total}
use Rattle.trie_theory.specs.Dimensions.{Above, root, below}
use Rattle.trie_theory.specs.SmallTrie.{new_leaf, two, differing, split, added, grown, small_trie}
use Rattle.trie_theory.specs.Sound.{Starts, Sound, Ascending, EmptySuffixes}
use Rattle.trie_theory.specs.Entries.{complete, Stops, Small}
use Rattle.buffer.proofs.Lists.{all_head, all_append, all_left, all_right, all_unmap, all_imp}
use Rattle.buffer.proofs.Sums.{equal_all}
use Rattle.trie_theory.proofs.Prefix.{From, all_begin_prefixes, prefixes_refl}
use Rattle.trie_theory.proofs.Strings.{at_join, at_total, total_strip}
use Rattle.trie_theory.proofs.Keys.{keys_from}
use Rattle.trie_theory.proofs.Free.{Free, at_split, held_below}
use Rattle.trie_theory.proofs.Complete.{complete_wide, complete_free}
use Rattle.trie_theory.proofs.SmallStep.{placed, placed_cases}
use Rattle.trie_theory.proofs.SmallKept.{sum_added}
use Rattle.trie_theory.proofs.SmallSound.{sound_added}
use Rattle.trie_theory.proofs.SmallAscending.{ascending_added}

-- strings have no byte exactly if they have none in any dimension
total_none : (s : Strings) → ((d : ℕ) → at d s ≡ []) → total s ≡ 0
unfolding total
total_none [] h = refl
total_none (s ∷ ss) h = omega (arith, ap length (h 0), total_none ss (λ d. h (suc d)))

none_total : (s : Strings) → total s ≡ 0 → (d : ℕ) → at d s ≡ []
none_total s e d = go (at d s) (at_total d s)
  where
    go : (l : List ℕ) → length l ≤ total s → l ≡ []
    go [] h = refl
    go (b ∷ l) h = absurd (omega arith)

strip_self : (s : Strings) → total (strip s s) ≡ 0
strip_self s = omega (arith, total_strip s s (prefixes_refl s))

-- where a key agrees with a leaf, nothing of it is left
leaf_ends : (s : Strings) (ts : List Key) (x : Key) → From s x → 1 ≤ length ts → All (λ t. total t.strings ≡ 0) ts
    → All (λ y. Free y x) (map (under s) ts)
    → total (strip s x.strings) ≡ 0
unfolding Free under
leaf_ends s [] x f l b h = absurd (omega arith)
leaf_ends s (t ∷ ts) x f l b h =
    total_none (strip s x.strings) (λ d. all_head h d (at d (strip s x.strings))
    (at_split d s x.strings f
    ∙ ap (λ (l : List ℕ). l ++ at d (strip s x.strings))
    (sym (at_join d s t.strings ∙ ap (λ (l : List ℕ). at d s ++ l) (none_total t.strings (all_head b) d) ∙ append-nil (at d s)))))

new_leaf_empty : (x : Key) (more : Forest) → EmptySuffixes more → EmptySuffixes (new_leaf x more)
unfolding EmptySuffixes new_leaf remains
new_leaf_empty x more b = (cons {x = remains x.strings x} (strip_self x.strings) nil, b)

module _ (node : Strings → Forest → Forest) (make : (s : Strings) (more : Forest) → EmptySuffixes more → EmptySuffixes (node s more)) where
  two_empty : (d : ℕ) (s : Strings) (x : Key) → EmptySuffixes (two d node s x)
  unfolding two EmptySuffixes
  two_empty d s x = go (ltb (first d x.strings) (first d s))
    where
      go : (w : Bool) → EmptySuffixes (cond w (new_leaf x (node s none)) (node s (new_leaf x none)))
      go true = new_leaf_empty x (node s none) (make s none tt)
      go false = make s (new_leaf x none) (new_leaf_empty x none tt)

  placed_empty : (above : Above) (s : Strings) (x : Key) (agreed more later : Forest) → EmptySuffixes more
      → (all_begin s x.strings ≡ true → EmptySuffixes agreed) → EmptySuffixes later → EmptySuffixes (placed above node s x agreed more later)
  unfolding split EmptySuffixes
  placed_empty above s x agreed more later b ha hl =
      let p = commons s x.strings in
      placed_cases EmptySuffixes above node s x agreed more later
      (λ m g. ha g)
      (λ m g. (two_empty (differing above (strip p s)) (strip p s) (remains p x), b))
      (λ m a. new_leaf_empty x (node s more) (make s more b))
      (λ m a. make s later hl)

-- ONE PATH AND VALUE PER LEAF
pub empty_added : (n : ℕ) (above : Above) (f : Forest) (x : Key) → Sound n above f → EmptySuffixes f → All (λ y. Free y x) (keys [] f)
    → EmptySuffixes (added above f x)
unfolding added EmptySuffixes new_leaf Sound keys join remains
empty_added n above none x h b held = new_leaf_empty x none tt
empty_added n above (leaf s ts more) x h b held =
    placed_empty (λ s' m. leaf s' ts m) (λ s' m r. (b.0, r)) above s x (leaf s (ts ++ (remains s x ∷ [])) more) more
    (added above more x) b.1
    (λ g.
    let none_left = leaf_ends s ts x (all_begin_prefixes s x.strings g) h.1 b.0 (all_left (map (under s) ts) (keys [] more) held) in
    (all_append b.0 (cons {x = remains s x} none_left nil), b.1))
    (empty_added n above more x h.3 b.1 (all_right (map (under s) ts) (keys [] more) held))
empty_added n above (inner d s children more) x h b held =
    placed_empty (λ s' m. inner d s' children m) (λ s' m r. (b.0, r))
    above s x (inner d s (added (below d) children (remains s x)) more) more (added above more x) b.1
    (λ g. (empty_added n (below d) children (remains s x) h.2 b.0 (below_held (all_begin_prefixes s x.strings g)), b.1))
    (empty_added n above more x h.3 b.1 (all_right (keys s children) (keys [] more) held))
  where
    below_held : From s x → All (λ y. Free y (remains s x)) (keys [] children)
    below_held f =
        all_unmap (under s) (λ y q. held_below s x y f q) (keys [] children)
        (subst (All (λ y. Free y x)) (keys_from s children) (all_left (keys s children) (keys [] more) held))

module _ (cs : List (List ℕ → Bool)) (stop : All Stops cs) where
  pub small_none : Small cs none
  unfolding Sound EmptySuffixes keys
  small_none = record { sound = tt; empty_suffixes = tt; whole = nil }

  -- AN ADDITION LEAVES A SMALL TRIE, whoever made it
  pub small_added : (t : Forest) (x : Key) → Small cs t → complete cs x.strings ≡ true → Small cs (added root t x)
  unfolding Starts under join
  small_added t x h q = record {
    sound = sound_added (length cs) root t x h.sound (complete_wide cs x.strings q) tt
        (all_imp (λ y p. complete_free stop x y q p) h.whole);
    empty_suffixes = empty_added (length cs) root t x h.sound h.empty_suffixes (all_imp (λ y p. complete_free stop y x p q) h.whole);
    whole = equal_all (keys [] (added root t x)) (x ∷ keys [] t) (λ f. unfold sum in sum_added f root [] t x)
        (λ y. complete cs y.strings) (λ y. complete cs y.strings ≡ true) (λ y e. e) (λ y e. e) (cons q h.whole);
  }

  -- .. and where its children ascend they still do
  pub small_ascending : (t : Forest) (x : Key) → Small cs t → complete cs x.strings ≡ true → Ascending root t
      → Ascending root (added root t x)
  unfolding Starts
  small_ascending t x h q o =
      ascending_added (length cs) root t x h.sound (complete_wide cs x.strings q) tt
      (all_imp (λ y p. complete_free stop x y q p) h.whole) o

  small_grown : (t : Forest) {xs : List Key} → Small cs t → Ascending root t → All (λ x. complete cs x.strings ≡ true) xs
      → Small cs (grown t xs) × Ascending root (grown t xs)
  unfolding grown
  small_grown t h o nil = (h, o)
  small_grown t h o (cons {x = x} q a) = small_grown (added root t x) (small_added t x h q) (small_ascending t x h q o) a

  pub small_small : {xs : List Key} → All (λ x. complete cs x.strings ≡ true) xs
      → Small cs (small_trie xs) × Ascending root (small_trie xs)
  unfolding small_trie Ascending
  small_small a = small_grown none small_none tt a
