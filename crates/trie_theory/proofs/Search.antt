-- THE SEARCH THEOREM, of any tries whatever: a child that is passed over has no key that matches, since its branching byte
-- begins all its keys. And the nodes that a search enters, walking, are those that the rule of entering admits.
use Prim.Native.Nat.{ℕ, zero, suc, ◌+◌, ◌≤◌}
use mathlib.Core.Path.{◌≡◌, refl, sym, ap, ap₂, ◌∙◌}
use mathlib.Core.Bool.{Bool, true, false, cond, true≢false}
use mathlib.Core.List.{List, [], ◌∷◌, ◌++◌, map}
use native.Mathlib.Omega.{arith}
use Rattle.trie_theory.specs.Forest.{Strings, Key, Forest, none, leaf, inner, join, under, keys}
use Rattle.buffer.specs.Lists.{All, nil, cons, pick, count}
use Rattle.trie_theory.specs.Strings.{all_begin}
use Rattle.trie_theory.specs.Dimensions.{Above, root, below}
use Rattle.trie_theory.specs.Search.{branch, node, nodes_in, admitted, enters, nodes_entered, found}
use Rattle.trie_theory.specs.Size.{nodes}
use Rattle.buffer.proofs.Lists.{pick_append}
use Rattle.buffer.proofs.Sums.{count_append}
use Rattle.buffer.proofs.Tests.{not-true}
use Rattle.trie_theory.proofs.Prefix.{Prefix, Prefixes, From, prefixes_all_begin, prefix_refl, prefixes_refl, prefixes_join}
use Rattle.trie_theory.proofs.Prefix.{prefixes_trans, prefix_append}
use Rattle.trie_theory.proofs.Keys.{from_under, all_keys}

prefix_more : (k : List ℕ) (b : ℕ) (s : List ℕ) → Prefix (k ++ (b ∷ [])) (k ++ (b ∷ s))
unfolding Prefix
prefix_more [] b s = (refl, tt)
prefix_more (a ∷ k) b s = (refl, prefix_more k b s)

-- the branching byte behind the known bytes begins what is known below the child, and is begun by them
pub branch_join : (d : ℕ) (k s : Strings) → Prefixes (branch d k s) (join k s)
unfolding branch join Prefixes
branch_join d [] s = tt
branch_join d (k ∷ ks) [] = prefixes_refl (k ∷ ks)
branch_join zero (k ∷ ks) ([] ∷ ss) = (prefix_append k [], prefixes_join ks ss)
branch_join zero (k ∷ ks) ((b ∷ s) ∷ ss) = (prefix_more k b s, prefixes_join ks ss)
branch_join (suc d) (k ∷ ks) (s ∷ ss) = (prefix_append k s, branch_join d ks ss)

known_branch : (d : ℕ) (k s : Strings) → Prefixes k (branch d k s)
unfolding branch Prefixes
known_branch d [] s = tt
known_branch d (k ∷ ks) [] = prefixes_refl (k ∷ ks)
known_branch zero (k ∷ ks) ([] ∷ ss) = prefixes_refl (k ∷ ks)
known_branch zero (k ∷ ks) ((b ∷ s) ∷ ss) = (prefix_append k (b ∷ []), prefixes_refl ks)
known_branch (suc d) (k ∷ ks) (s ∷ ss) = (prefix_refl k, known_branch d ks ss)

module _ (reach : Strings → Bool) (matching : Key → Bool)
    (sees : (k : Strings) (x : Key) → all_begin k x.strings ≡ true → matching x ≡ true → reach k ≡ true) where
  none_matching : (k : Strings) {xs : List Key} → All (From k) xs → reach k ≡ false → pick matching xs ≡ []
  unfolding pick
  none_matching k nil blocked = refl
  none_matching k (cons {x = x} {xs = xs} h a) blocked = go (matching x) refl (none_matching k a blocked)
    where
      go : (w : Bool) → matching x ≡ w → pick matching xs ≡ [] → cond w (x ∷ pick matching xs) (pick matching xs) ≡ []
      go true e r = absurd (true≢false (sym (sees k x (prefixes_all_begin k x.strings h) e) ∙ blocked))
      go false e r = r

  -- a node that is passed over has nothing that matches
  guarded : (above : Above) (k s : Strings) {xs : List Key} → All (From (join k s)) xs
      → cond (enters reach above k s) (pick matching xs) [] ≡ pick matching xs
  unfolding enters
  guarded root k s a = refl
  guarded (below d) k s {xs} a = go (reach (branch d k s)) refl
    where
      shorter : {ys : List Key} → All (From (join k s)) ys → All (From (branch d k s)) ys
      shorter nil = nil
      shorter (cons {x = x} h r) = cons (prefixes_trans (branch d k s) (join k s) x.strings (branch_join d k s) h) (shorter r)

      go : (w : Bool) → reach (branch d k s) ≡ w → cond w (pick matching xs) [] ≡ pick matching xs
      go true e = refl
      go false e = sym (none_matching (branch d k s) (shorter a) e)

  -- WHAT IS FOUND is every key that matches, in the tries' own sequence
  pub found_all : (above : Above) (k : Strings) (f : Forest) → found reach matching above k f ≡ pick matching (keys k f)
  unfolding found keys pick
  found_all above k none = refl
  found_all above k (leaf s ts more) =
      ap₂ ◌++◌ (guarded above k s (from_under (join k s) ts)) (found_all above k more)
      ∙ sym (pick_append matching (map (under (join k s)) ts) (keys k more))
  found_all above k (inner d s children more) =
      ap₂ ◌++◌
      (ap (λ (l : List Key). cond (enters reach above k s) l []) (found_all (below d) (join k s) children)
      ∙ guarded above k s (all_keys (join k s) children))
      (found_all above k more)
      ∙ sym (pick_append matching (keys (join k s) children) (keys k more))

module _ (reach : Strings → Bool) (down : (k l : Strings) → all_begin k l ≡ true → reach l ≡ true → reach k ≡ true) where
  -- where bytes are refused, so is all that goes on from them
  refused : (k l : Strings) → Prefixes k l → reach k ≡ false → reach l ≡ false
  refused k l h e = not-true (reach l) (λ q. true≢false (sym (down k l (prefixes_all_begin k l h) q) ∙ e))

  none_admitted : (d : ℕ) (k : Strings) (f : Forest) → reach k ≡ false → count (admitted reach) (nodes_in (below d) k f) ≡ 0
  unfolding nodes_in count
  none_admitted d k none e = refl
  none_admitted d k (leaf s ts more) e = rw (refused k (branch d k s) (known_branch d k s) e) (none_admitted d k more e)
  none_admitted d k (inner c s children more) e =
      rw (refused k (branch d k s) (known_branch d k s) e)
      (omega (arith, count_append (admitted reach) (nodes_in (below c) (join k s) children) (nodes_in (below d) k more), none_admitted c (join k s) children (refused k (join k s) (prefixes_join k s) e), none_admitted d k more e))

  -- THE NODE COUNT: a walk enters exactly what the rule admits
  pub entered_admitted : (above : Above) (k : Strings) (f : Forest) → nodes_entered reach above k f ≡ count (admitted reach) (nodes_in above k f)
  unfolding nodes_entered nodes_in count enters
  entered_admitted above k none = refl
  entered_admitted above k (leaf s ts more) = go (admitted reach (node above k s)) (entered_admitted above k more)
    where
      go : (w : Bool) → nodes_entered reach above k more ≡ count (admitted reach) (nodes_in above k more)
          → cond w 1 0 + nodes_entered reach above k more
          ≡ cond w (suc (count (admitted reach) (nodes_in above k more))) (count (admitted reach) (nodes_in above k more))
      go true ih = omega arith
      go false ih = omega arith
  entered_admitted above k (inner c s children more) =
      let xs = nodes_in (below c) (join k s) children in
      rw (count_append (admitted reach) xs (nodes_in above k more))
      (go (admitted reach (node above k s)) refl (entered_admitted (below c) (join k s) children) (entered_admitted above k more))
    where
      blocked : (above : Above) → admitted reach (node above k s) ≡ false → reach (join k s) ≡ false
      blocked root e = absurd (true≢false e)
      blocked (below d) e = refused (branch d k s) (join k s) (branch_join d k s) e

      go : (w : Bool) → admitted reach (node above k s) ≡ w
          → nodes_entered reach (below c) (join k s) children ≡ count (admitted reach) (nodes_in (below c) (join k s) children)
          → nodes_entered reach above k more ≡ count (admitted reach) (nodes_in above k more)
          → let n = count (admitted reach) (nodes_in (below c) (join k s) children) + count (admitted reach) (nodes_in above k more) in
          cond w (1 + nodes_entered reach (below c) (join k s) children) 0 + nodes_entered reach above k more ≡ cond w (suc n) n
      go true q ihk ih = omega arith
      go false q ihk ih = omega (arith, ih, none_admitted c (join k s) children (blocked above q))

-- NO MORE NODES ARE ENTERED THAN THERE ARE, whatever the query. No proof cites it: it bounds the second value of a search
pub entered_most : (reach : Strings → Bool) (above : Above) (k : Strings) (f : Forest) → nodes_entered reach above k f ≤ nodes f
unfolding nodes_entered nodes
entered_most reach above k none = omega arith
entered_most reach above k (leaf s ts more) = go (enters reach above k s) (entered_most reach above k more)
  where
    go : (w : Bool) → nodes_entered reach above k more ≤ nodes more
        → cond w 1 0 + nodes_entered reach above k more ≤ suc (nodes more)
    go true h = omega arith
    go false h = omega arith
entered_most reach above k (inner d s children more) =
    go (enters reach above k s) (entered_most reach (below d) (join k s) children) (entered_most reach above k more)
  where
    go : (w : Bool) → nodes_entered reach (below d) (join k s) children ≤ nodes children → nodes_entered reach above k more ≤ nodes more
        → cond w (1 + nodes_entered reach (below d) (join k s) children) 0 + nodes_entered reach above k more ≤ suc (nodes children + nodes more)
    go true g h = omega arith
    go false g h = omega arith
