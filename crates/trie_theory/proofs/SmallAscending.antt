-- An addition to a trie whose children ascend leaves them so: a new leaf stands before all siblings with higher bytes.
use Prim.Native.Nat.{ℕ, ◌≤◌, ◌<◌}
use mathlib.Core.Path.{◌≡◌, refl, sym, ap, ◌∙◌}
use mathlib.Core.Bool.{Bool, true, false, cond, ◌&&◌}
use mathlib.Core.List.{[], ◌∷◌, ◌++◌, map}
use native.Mathlib.Omega.{arith}
use lib.Dec.{ltb}
use borrow.Author.Tests.{ltb-true, ltb-false, lt-ltb}
use Rattle.buffer.specs.Lists.{all, All}
use Rattle.trie_theory.specs.Forest.{Strings, Key, Forest, none, leaf, inner, join, under, keys, tops}
use Rattle.trie_theory.specs.Strings.{all_begin, commons, strip, remains, first}
use Rattle.trie_theory.specs.Dimensions.{Above, below, branching}
use Rattle.trie_theory.specs.SmallTrie.{meets, precedes, new_leaf, two, differing, split, added}
use Rattle.trie_theory.specs.Sound.{Starts, Wide, Node, Sound, Ascending}
use Rattle.buffer.proofs.Lists.{all_left, all_right, all_imp, all_tested, all_test}
use Rattle.buffer.proofs.Tests.{and_both}
use Rattle.trie_theory.proofs.Prefix.{From, all_begin_prefixes}
use Rattle.trie_theory.proofs.Strings.{length_strip}
use Rattle.trie_theory.proofs.Branching.{meets_false}
use Rattle.trie_theory.proofs.Free.{Free, free_left, lefts_differ, differing_starts}
use Rattle.trie_theory.proofs.SoundLaws.{some_key}
use Rattle.trie_theory.proofs.SmallStep.{placed, placed_cases}
use Rattle.trie_theory.proofs.SmallSound.{Fronts, commons_branching, tops_added, below_free, below_starts}

-- Where siblings ascend, a byte is below all of theirs exactly if it is below the first one's: the one comparison that code makes
pub precedes_next : (above : Above) (k s : Strings) (f more : Forest) → tops f ≡ s ∷ tops more → precedes above s more ≡ true
    → precedes above k f ≡ ltb (branching above k) (branching above s)
unfolding precedes
precedes_next above k s f more e a = ap (all higher) e ∙ go (higher s) refl
  where
    higher : Strings → Bool
    higher = λ t. ltb (branching above k) (branching above t)

    go : (w : Bool) → higher s ≡ w → (w && all higher (tops more)) ≡ w
    go true q =
        all_test higher (all_imp (λ t h. lt-ltb (branching above k) (branching above t) (omega (
          arith,
          ltb-true (branching above k) (branching above s) q,
          ltb-true (branching above s) (branching above t) h,
        ))) (all_tested (λ t. ltb (branching above s) (branching above t)) (tops more) a))
    go false q = refl

-- a byte that is neither a node's nor below those of the node and its later siblings is above the node's
later_above : (above : Above) (s k : Strings) (f more : Forest) → tops f ≡ s ∷ tops more → precedes above s more ≡ true
    → meets above s k ≡ false → precedes above k f ≡ false → ltb (branching above s) (branching above k) ≡ true
later_above above s k f more e a m b =
    lt-ltb (branching above s) (branching above k)
    (strict (branching above s) (branching above k)
    (ltb-false (branching above k) (branching above s) (sym (precedes_next above k s f more e a) ∙ b)) (meets_false above s k m))
  where
    strict : (i j : ℕ) → i ≤ j → (i ≡ j → ⊥) → i < j
    strict i j h n = omega arith

precedes_added : (n : ℕ) (above : Above) (s : Strings) (f : Forest) (x : Key) → Sound n above f → Starts above x.strings
    → precedes above s f ≡ true → ltb (branching above s) (branching above x.strings) ≡ true
    → precedes above s (added above f x) ≡ true
unfolding precedes
precedes_added n above s f x h sx a l =
    let t : Strings → Bool = λ t. ltb (branching above s) (branching above t) in
    all_test t (tops_added (λ b. ltb (branching above s) b ≡ true) n above f x h sx l (all_tested t (tops f) a))

-- a leaf or an inner node, of which only the strings and the siblings change
module _ (node : Strings → Forest → Forest) (own : Fronts node)
    (make : (above : Above) (s : Strings) (more : Forest) → precedes above s more ≡ true → Ascending above more
    → Ascending above (node s more)) where
  two_ascending : (d : ℕ) (s : Strings) (x : Key) → (first d s ≡ first d x.strings → ⊥) → Ascending (below d) (two d node s x)
  unfolding two Ascending precedes branching new_leaf tops
  two_ascending d s x apart = go (ltb (first d x.strings) (first d s)) refl
    where
      go : (w : Bool) → ltb (first d x.strings) (first d s) ≡ w
          → Ascending (below d) (cond w (new_leaf x (node s none)) (node s (new_leaf x none)))
      go true e = (rw (own s none) (and_both e refl), make (below d) s none refl tt)
      go false e =
          let l : first d s < first d x.strings = omega (arith, ltb-false (first d x.strings) (first d s) e) in
          make (below d) s (new_leaf x none) (and_both (lt-ltb (first d s) (first d x.strings) l) refl) (refl, tt)

  placed_ascending : (n : ℕ) (above : Above) (s : Strings) (x : Key) (agreed more : Forest)
      → Node n above s more → Sound n above more → Wide n x → Starts above x.strings → (y : Key) × Free x y × From s y
      → precedes above s more ≡ true → Ascending above more
      → (all_begin s x.strings ≡ true → Ascending above agreed) → Ascending above (added above more x)
      → Ascending above (placed above node s x agreed more (added above more x))
  unfolding split Ascending precedes remains new_leaf
  placed_ascending n above s x agreed more h hm w fx (y, free, from) a b ha hl =
      let k = x.strings in
      let p = commons s k in
      let d = differing above (strip p s) in
      placed_cases (Ascending above) above node s x agreed more (added above more x)
      (λ m g. ha g)
      (λ m g.
      let fs : Starts (below d) (strip p s) = differing_starts above s k (h.wide ∙ sym w) h.starts g in
      let fk : Starts (below d) (strip p k) = free_left d s x y free from fs in
      (rw (commons_branching above s k h.starts fx m) a, two_ascending d (strip p s) (remains p x) (lefts_differ d s k fs fk), b))
      (λ m c. (c, make above s more a b))
      (λ m c. make above s (added above more x)
      (precedes_added n above s more x hm fx a (later_above above s k (node s more) more (own s more) a m c)) hl)

-- CHILDREN THAT ASCEND STILL DO
pub ascending_added : (n : ℕ) (above : Above) (f : Forest) (x : Key) → Sound n above f → Wide n x → Starts above x.strings
    → All (Free x) (keys [] f)
    → Ascending above f → Ascending above (added above f x)
unfolding added Sound Ascending keys join tops remains new_leaf precedes
ascending_added n above none x h w fx free o = (refl, tt)
ascending_added n above (leaf s ts more) x h w fx free o =
    placed_ascending (λ s' m. leaf s' ts m) (λ s' m. refl) (λ above' s' m a b. (a, b))
    n above s x (leaf s (ts ++ (remains s x ∷ [])) more) more h.0 h.3 w fx (some_key n above [] (leaf s ts more) h (omega arith) free)
    o.0 o.1 (λ g. o)
    (ascending_added n above more x h.3 w fx (all_right (map (under s) ts) (keys [] more) free) o.1)
ascending_added n above (inner d s children more) x h w fx free o =
    placed_ascending (λ s' m. inner d s' children m) (λ s' m. refl) (λ above' s' m a b. (a, o.1, b))
    n above s x (inner d s (added (below d) children (remains s x)) more) more h.0 h.3 w fx
    (some_key n above [] (inner d s children more) h (omega arith) free)
    o.0 o.2
    (λ g.
    let f = below_free s children x (all_begin_prefixes s x.strings g) (all_left (keys s children) (keys [] more) free) in
    let starts = below_starts n d children (remains s x) h.2 h.1 f in
    (o.0, ascending_added n (below d) children (remains s x) h.2 (length_strip s x.strings ∙ w) starts f o.1, o.2))
    (ascending_added n above more x h.3 w fx (all_right (keys s children) (keys [] more) free) o.2)
