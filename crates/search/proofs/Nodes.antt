-- A leaf and an inner node before their siblings: what a search finds in them, and what they have of what it rests on. Assumes nothing.
use mathlib.Core.Path.{◌≡◌, refl}
use mathlib.Core.Bool.{Bool, true, false}
use Prim.Native.Nat.{ℕ, ◌+◌, ◌≤◌}
use mathlib.Core.List.{List, [], ◌++◌, map}
use native.Mathlib.Omega.{arith}
use lib.ListN.{length}
use Rattle.buffer.specs.Lists.{All, nil, cons, pick}
use Rattle.buffer.proofs.Lists.{all_left, all_right}
use Rattle.trie_theory.specs.Forest.{Strings, Key, Forest, none, leaf, inner, join, under, keys, tops}
use Rattle.trie_theory.specs.Dimensions.{Above, below}
use Rattle.trie_theory.specs.Sound.{Node, Sound, Starts, Rising, LeavesRise}
use Rattle.trie_theory.specs.Size.{height}
use Rattle.trie_theory.specs.Search.{enters, found, nodes_entered}
use Rattle.search.specs.Searches.{OfPath, AtNode, NodesFit}

-- ---- what a search finds

module _ (reach : Strings → Bool) (m : Key → Bool) (above : Above) (k : Strings) where
  pub found_none : (f : Forest) → f ≡ none → (found reach m above k f ≡ []) × (nodes_entered reach above k f ≡ 0)
  unfolding found nodes_entered
  found_none f e = (rw e, rw e)

  pub found_low : (f : Forest) → height f ≤ 0 → (found reach m above k f ≡ []) × (nodes_entered reach above k f ≡ 0)
  unfolding height found nodes_entered
  found_low none h = (refl, refl)
  found_low (leaf s ts more) h = absurd (omega arith)
  found_low (inner d s children more) h = absurd (omega arith)

  module _ (s : Strings) (more : Forest) where
    pub leaf_in : (ts : List Key) → enters reach above k s ≡ true
        → (found reach m above k (leaf s ts more) ≡ pick m (map (under (join k s)) ts) ++ found reach m above k more)
        × (nodes_entered reach above k (leaf s ts more) ≡ 1 + nodes_entered reach above k more)
    unfolding found nodes_entered
    leaf_in ts e = (rw e, rw e)

    pub leaf_out : (ts : List Key) → enters reach above k s ≡ false
        → (found reach m above k (leaf s ts more) ≡ found reach m above k more)
        × (nodes_entered reach above k (leaf s ts more) ≡ nodes_entered reach above k more)
    unfolding found nodes_entered
    leaf_out ts e = (rw e, rw e (omega arith))

    pub inner_in : (d : ℕ) (children : Forest) → enters reach above k s ≡ true
        → (found reach m above k (inner d s children more) ≡ found reach m (below d) (join k s) children ++ found reach m above k more)
        × (nodes_entered reach above k (inner d s children more) ≡ 1 + nodes_entered reach (below d) (join k s) children + nodes_entered reach above k more)
    unfolding found nodes_entered
    inner_in d children e = (rw e, rw e)

    pub inner_out : (d : ℕ) (children : Forest) → enters reach above k s ≡ false
        → (found reach m above k (inner d s children more) ≡ found reach m above k more)
        × (nodes_entered reach above k (inner d s children more) ≡ nodes_entered reach above k more)
    unfolding found nodes_entered
    inner_out d children e = (rw e, rw e (omega arith))

  -- none of them is entered
  pub none_in : (f : Forest) → All (λ s. enters reach above k s ≡ false) (tops f) → (found reach m above k f ≡ []) × (nodes_entered reach above k f ≡ 0)
  unfolding found nodes_entered tops
  none_in none h = (refl, refl)
  none_in (leaf s ts more) (cons e h) = let i = none_in more h in (rw (e, i.0), rw (e, i.1))
  none_in (inner d s children more) (cons e h) = let i = none_in more h in (rw (e, i.0), rw (e, i.1))

-- each of sound tries has its strings and its branching byte
pub tops_sound : (above : Above) (f : Forest) → Sound 2 above f → All (λ s. (length s ≡ 2) × Starts above s) (tops f)
unfolding Sound tops
tops_sound above none h = nil
tops_sound above (leaf s ts more) h = cons (h.0.wide, h.0.starts) (tops_sound above more h.3)
tops_sound above (inner d s children more) h = cons (h.0.wide, h.0.starts) (tops_sound above more h.3)

-- ---- a leaf and an inner node before their siblings

pub leaf_sound : (above : Above) (s : Strings) (ts : List Key) (more : Forest) → Sound 2 above (leaf s ts more) → Node 2 above s more × Sound 2 above more
unfolding Sound
leaf_sound above s ts more h = (h.0, h.3)

pub inner_sound : (above : Above) (d : ℕ) (s : Strings) (children more : Forest) → Sound 2 above (inner d s children more)
    → Node 2 above s more × Sound 2 (below d) children × Sound 2 above more
unfolding Sound
inner_sound above d s children more h = (h.0, h.2, h.3)

pub leaf_roomy : (k s : Strings) (ts : List Key) (more : Forest) → NodesFit k (leaf s ts more) → AtNode (join k s) × NodesFit k more
unfolding NodesFit
leaf_roomy k s ts more r = r

pub inner_roomy : (k s : Strings) (d : ℕ) (children more : Forest) → NodesFit k (inner d s children more) → AtNode (join k s) × NodesFit (join k s) children × NodesFit k more
unfolding NodesFit
inner_roomy k s d children more r = r

pub leaf_keys : (k s : Strings) (ts : List Key) (more : Forest) → All OfPath (keys k (leaf s ts more)) → LeavesRise (leaf s ts more)
    → (All OfPath (map (under (join k s)) ts) × Rising ts) × (All OfPath (keys k more) × LeavesRise more)
unfolding keys LeavesRise
leaf_keys k s ts more a r = let xs = map (under (join k s)) ts in ((all_left xs (keys k more) a, r.0), (all_right xs (keys k more) a, r.1))

pub inner_keys : (k s : Strings) (d : ℕ) (children more : Forest) → All OfPath (keys k (inner d s children more)) → LeavesRise (inner d s children more)
    → (All OfPath (keys (join k s) children) × LeavesRise children) × (All OfPath (keys k more) × LeavesRise more)
unfolding keys LeavesRise
inner_keys k s d children more a r = let xs = keys (join k s) children in ((all_left xs (keys k more) a, r.0), (all_right xs (keys k more) a, r.1))
