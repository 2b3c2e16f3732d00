-- What holds of the strings of all keys and passes to their parts holds of every string in a sound trie: so each is as short
-- as the keys' are, and of bytes only. No proof cites it: the readers ask for no bound on a string.
use Prim.Native.Nat.{ℕ, ◌≤◌, ◌<◌}
use mathlib.Core.Path.{sym, subst}
use mathlib.Core.List.{List, [], ◌∷◌, ◌++◌, map}
use native.Mathlib.Omega.{arith}
use lib.ListN.{length, length-append}
use Rattle.trie_theory.specs.Forest.{Strings, Key, Forest, none, leaf, inner, join, under, keys, tops}
use Rattle.buffer.specs.Lists.{All, nil, cons}
use Rattle.trie_theory.specs.Strings.{strip}
use Rattle.trie_theory.specs.Dimensions.{Above, below}
use Rattle.trie_theory.specs.Sound.{Sound}
use Rattle.buffer.proofs.Lists.{all_head, all_tail, all_left, all_right, all_unmap}
use Rattle.trie_theory.proofs.Prefix.{From}
use Rattle.trie_theory.proofs.Strings.{join_strip}
use Rattle.trie_theory.proofs.SoundLaws.{some_key}

-- Q holds of each string of each node and suffix
unfoldable pub EachString : (List ℕ → Type 0) → Forest → Type 0
EachString Q none = Unit {0}
EachString Q (leaf s ts more) = All Q s × All (λ t. All Q t.strings) ts × EachString Q more
EachString Q (inner d s children more) = All Q s × EachString Q children × EachString Q more

-- what passes from a string to its beginnings and its ends
abbrev pub Inherited : (List ℕ → Type 0) → Type 0
Inherited Q = (a b : List ℕ) → Q (a ++ b) → Q a × Q b

module _ (Q : List ℕ → Type 0) (whole : Inherited Q) where
  all_joined : (k s : Strings) → All Q (join k s) → All Q k × All Q s
  unfolding join
  all_joined [] s a = (nil, a)
  all_joined (k ∷ ks) [] a = (a, nil)
  all_joined (k ∷ ks) (s ∷ ss) a =
      let h = whole k s (all_head a) in
      let r = all_joined ks ss (all_tail a) in
      (cons h.0 r.0, cons h.1 r.1)

  -- the strings of a node from which a key goes on
  node_strings_lem : (k s : Strings) → (x : Key) × All Q x.strings × From (join k s) x → All Q s
  node_strings_lem k s (x, a, f) =
      (all_joined k s (all_joined (join k s) (strip (join k s) x.strings)
      (subst (All Q) (sym (join_strip (join k s) x.strings f)) a)).0).1

  -- EVERY STRING OF A SOUND TRIE
  pub each_string : (n : ℕ) (above : Above) (k : Strings) (f : Forest) → Sound n above f → All (λ x. All Q x.strings) (keys k f)
      → EachString Q f
  unfolding EachString Sound keys tops under
  each_string n above k none h a = tt
  each_string n above k (leaf s ts more) h a = (
    node_strings_lem k s (some_key n above k (leaf s ts more) h (omega arith) a),
    all_unmap (under (join k s)) (λ t e. (all_joined (join k s) t.strings e).1) ts (all_left (map (under (join k s)) ts) (keys k more) a),
    each_string n above k more h.3 (all_right (map (under (join k s)) ts) (keys k more) a),
  )
  each_string n above k (inner d s children more) h a = (
    node_strings_lem k s (some_key n above k (inner d s children more) h (omega arith) a),
    each_string n (below d) (join k s) children h.2 (all_left (keys (join k s) children) (keys k more) a),
    each_string n above k more h.3 (all_right (keys (join k s) children) (keys k more) a),
  )

-- at most B bytes
pub short_inherited : (B : ℕ) → Inherited (λ s. length s ≤ B)
short_inherited B a b l = (omega (arith, length-append a b), omega (arith, length-append a b))

-- bytes only
pub bytes_inherited : Inherited (All (λ b. b < 256))
bytes_inherited a b h = (all_left a b h, all_right a b h)
