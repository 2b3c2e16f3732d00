-- A level: the trie of a set of keys (Definitions 7 and 8). Four keys with τ 1, $ the end byte:
--
--   7 /north/edge     (00 00 00 00 00 00 00, /) V
--   7 /north/pond      |- 07  (07, north/) path
--   9 /south/edge      |       |- e  (, edge$)
--   9 /south/lake      |       |- p  (, pond$)
--                      |- 09  (09, south/) path
--                              |- e  (, edge$)
--                              |- l  (, lake$)
use Rattle.std.specs.Prelude.{ℕ, zero, suc, cond, List, [], ◌∷◌, map, length, ltb}
use Rattle.std.proofs.Math.Option.{Option, none, some}
use Rattle.trie_theory.specs.Forest.{Strings, Key, Forest, leaf, inner}
use Rattle.trie_theory.specs.Strings.{strip, remains}
use Rattle.trie_theory.specs.Dimensions.{Above, root, below, turn}
use Rattle.trie_theory.specs.Position.{shared, differ}
use Rattle.trie_theory.specs.Parts.{parts}

-- The dimension in which keys are partitioned: where there are more than τ, the first from the wanted one on, round
-- about, in which they differ. None for a leaf
unfoldable pub choice : ℕ → ℕ → Above → List Key → Option ℕ
choice n τ above ks = cond (ltb τ (length ks)) (turn (λ d. differ d ks) n above) none

-- The node of keys, k known at its parent, before its siblings: it has the bytes from its parent's positions up to its
-- own; a leaf keeps what remains of each key
unfoldable pub node : Strings → List Key → Option ℕ → (ℕ → Forest) → Forest → Forest
node k ks none children more = leaf (strip k (shared ks)) (map (remains (shared ks)) ks) more
node k ks (some d) children more = inner d (strip k (shared ks)) (children d) more

-- tries side by side, one for each part
unfoldable pub each : (List Key → Forest → Forest) → List (List Key) → Forest
each g [] = Forest.none
each g (p ∷ ps) = g p (each g ps)

-- the trie of keys, at most f partitions deep: a part is partitioned again, the next dimension wanted
unfoldable pub grow : ℕ → ℕ → ℕ → Above → Strings → List Key → Forest → Forest
grow n τ zero above k ks more = node k ks none (λ d. Forest.none) more
grow n τ (suc f) above k ks more =
    node k ks (choice n τ above ks) (λ d. each (grow n τ f (below d) (shared ks)) (parts d ks)) more

-- the same to its end: each part has fewer keys, so as many partitions as keys are enough (law `trie_step`)
unfoldable pub trie : ℕ → ℕ → Above → Strings → List Key → Forest → Forest
trie n τ above k ks more = grow n τ (length ks) above k ks more

-- the level of keys of n dimensions; no keys, no trie
unfoldable pub level_of : ℕ → ℕ → List Key → Forest
level_of n τ [] = Forest.none
level_of n τ (x ∷ xs) = trie n τ root [] (x ∷ xs) Forest.none
