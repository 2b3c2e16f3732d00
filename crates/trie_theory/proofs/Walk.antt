-- The nodes of a key: no more than the trie is high, with positions that are no more than one past the key's ends.
use Prim.Native.Nat.{ℕ, suc, ◌≤◌, max}
use mathlib.Core.Path.{◌≡◌, refl}
use mathlib.Core.Bool.{Bool, true, false, cond}
use mathlib.Core.List.{[], ◌∷◌, map}
use native.Mathlib.Omega.{arith}
use lib.ListN.{length}
use Rattle.trie_theory.specs.Forest.{Strings, Key, Forest, none, leaf, inner, join, keys}
use Rattle.buffer.specs.Lists.{All, nil, cons}
use Rattle.trie_theory.specs.Strings.{all_begin}
use Rattle.trie_theory.specs.Walk.{Step, step_at, walk}
use Rattle.trie_theory.specs.Size.{height}
use Rattle.buffer.proofs.Lists.{all_head, all_tail}
use Rattle.trie_theory.proofs.Prefix.{Prefixes, prefix_length, all_begin_prefixes}

-- NO MORE NODES THAN THE TRIE IS HIGH
pub walk_height : (k : Strings) (f : Forest) (x : Key) → length (walk k f x) ≤ height f
unfolding walk height
walk_height k none x = omega arith
walk_height k (leaf s ts more) x = go (all_begin (join k s) x.strings) (walk_height k more x)
  where
    go : (w : Bool) → length (walk k more x) ≤ height more
        → length (cond w (step_at (join k s) (length ts) 0 ∷ []) (walk k more x)) ≤ max 1 (height more)
    go true h = omega arith
    go false h = omega arith
walk_height k (inner d s children more) x = go (all_begin (join k s) x.strings) (walk_height (join k s) children x) (walk_height k more x)
  where
    go : (w : Bool) → length (walk (join k s) children x) ≤ height children → length (walk k more x) ≤ height more
        → length (cond w (step_at (join k s) (length (keys (join k s) children)) (suc d) ∷ walk (join k s) children x) (walk k more x))
        ≤ max (suc (height children)) (height more)
    go true g h = omega arith
    go false g h = omega arith

-- the positions of a node are at most m
abbrev pub AtMost : ℕ → Step → Type 0
AtMost m t = All (λ i. i ≤ m) t.positions

module _ (B : ℕ) (x : Key) (short : All (λ l. length l ≤ B) x.strings) where
  positions_most : (p s : Strings) → Prefixes p s → All (λ l. length l ≤ B) s → All (λ i. i ≤ suc B) (map (λ l. suc (length l)) p)
  unfolding Prefixes
  positions_most [] s h a = nil
  positions_most (p ∷ ps) [] h a = absurd h
  positions_most (p ∷ ps) (s ∷ ss) h a =
      let l = prefix_length p s h.0 in
      let m = all_head a in
      cons {x = suc (length p)} (omega arith) (positions_most ps ss h.1 (all_tail a))

  step_most : (k : Strings) (amount kind : ℕ) → all_begin k x.strings ≡ true → AtMost (suc B) (step_at k amount kind)
  unfolding step_at
  step_most k amount kind e = positions_most k x.strings (all_begin_prefixes k x.strings e) short

  -- NO POSITION IS MORE THAN ONE PAST AN END. No proof cites it: it bounds the positions of which a record tells
  pub walk_most : (k : Strings) (f : Forest) → All (AtMost (suc B)) (walk k f x)
  unfolding walk
  walk_most k none = nil
  walk_most k (leaf s ts more) = go (all_begin (join k s) x.strings) refl (walk_most k more)
    where
      go : (w : Bool) → all_begin (join k s) x.strings ≡ w → All (AtMost (suc B)) (walk k more x)
          → All (AtMost (suc B)) (cond w (step_at (join k s) (length ts) 0 ∷ []) (walk k more x))
      go true e r = cons (step_most (join k s) (length ts) 0 e) nil
      go false e r = r
  walk_most k (inner d s children more) = go (all_begin (join k s) x.strings) refl (walk_most (join k s) children) (walk_most k more)
    where
      go : (w : Bool) → all_begin (join k s) x.strings ≡ w → All (AtMost (suc B)) (walk (join k s) children x)
          → All (AtMost (suc B)) (walk k more x)
          → All (AtMost (suc B))
          (cond w (step_at (join k s) (length (keys (join k s) children)) (suc d) ∷ walk (join k s) children x) (walk k more x))
      go true e q r = cons (step_most (join k s) (length (keys (join k s) children)) (suc d) e) q
      go false e q r = r
