-- Walking down a trie with the bytes of a key: each step leads to tries in which the key is looked for all the same. Assumes nothing.
use mathlib.Core.Path.{◌≡◌, refl, sym, ap, ◌∙◌}
use mathlib.Core.Bool.{Bool, true, false, ◌&&◌, and-true}
use Prim.Native.Nat.{ℕ, ◌≤◌}
use mathlib.Core.List.{List, [], ◌∷◌}
use mathlib.Core.Logic.{⊎_elim}
use lib.ListN.{length, drop}
use Rattle.trie_theory.specs.Forest.{Strings, Key, Forest, none, leaf, inner}
use Rattle.trie_theory.specs.Strings.{begins, all_begin, strip, remains, at}
use Rattle.buffer.specs.Lists.{All}
use Rattle.trie_theory.specs.Dimensions.{Above, root, below}
use Rattle.trie_theory.specs.SmallTrie.{meets}
use Rattle.trie_theory.specs.Lookup.{member, among}
use Rattle.trie_theory.specs.Encode.{Regular, encode}
use Rattle.buffer.proofs.Tests.{and_left, and_right}
use Rattle.trie_read.proofs.Compare.{begins_length}
use Rattle.std.specs.Prelude.{Option, Some, None}
use Rattle.trie_read.proofs.Node.{head_end, LeafView, InnerView, leaf_view, inner_view, two, kind?}
use Rattle.trie_read.proofs.Stretch.{part_from}
use Rattle.trie_read.specs.Heads.{Head, head_of}
use Rattle.trie_read.specs.Suffixes.{suffixes_bytes}
use Rattle.trie_read.specs.Kinds.{number_of}
use Rattle.trie_read.specs.declared.kind.Dimension.{Dimension}
use Rattle.trie_read.specs.declared.kind.Kind.TheVariants.{Leaf, Inner}
use Rattle.trie_read.specs.Shape.{Fixed, part, key_of, above_of}

module _ (nv np v p : List ℕ) where
  pub goes_on : begins nv v ≡ true → all_begin (nv ∷ np ∷ []) (v ∷ p ∷ []) ≡ begins np p
  unfolding all_begin
  goes_on e = rw e (and-true (begins np p))

  pub goes_off : begins nv v ≡ false → all_begin (nv ∷ np ∷ []) (v ∷ p ∷ []) ≡ false
  unfolding all_begin
  goes_off e = rw e

-- ---- the steps

-- what remains of a key behind two strings
rest_two : (a b v p r : List ℕ) → remains (a ∷ b ∷ []) (key_of v p r) ≡ key_of (drop (length a) v) (drop (length b) p) r
unfolding remains strip
rest_two a b v p r = refl

nothing : (above : Above) (x : Key) → member above none x ≡ false
unfolding member
nothing above x = refl

-- one node of a lookup, for a leaf and for an inner node
module _ (above : Above) (s : Strings) (more : Forest) (x : Key) where
  leaf_past : (ts : List Key) → meets above s x.strings ≡ false → member above (leaf s ts more) x ≡ member above more x
  unfolding member
  leaf_past ts m = rw m

  leaf_off : (ts : List Key) → meets above s x.strings ≡ true → all_begin s x.strings ≡ false → member above (leaf s ts more) x ≡ false
  unfolding member
  leaf_off ts m g = rw (m, g)

  leaf_in : (ts : List Key) → meets above s x.strings ≡ true → all_begin s x.strings ≡ true → member above (leaf s ts more) x ≡ among (remains s x) ts
  unfolding member
  leaf_in ts m g = rw (m, g)

  inner_past : (d : ℕ) (children : Forest) → meets above s x.strings ≡ false → member above (inner d s children more) x ≡ member above more x
  unfolding member
  inner_past d children m = rw m

  inner_off : (d : ℕ) (children : Forest) → meets above s x.strings ≡ true → all_begin s x.strings ≡ false → member above (inner d s children more) x ≡ false
  unfolding member
  inner_off d children m g = rw (m, g)

  inner_in : (d : ℕ) (children : Forest) → meets above s x.strings ≡ true → all_begin s x.strings ≡ true
      → member above (inner d s children more) x ≡ member (below d) children (remains s x)
  unfolding member
  inner_in d children m g = rw (m, g)

-- a key goes on from strings no longer than its own
pub on_lengths : (nv np v p : List ℕ) → all_begin (nv ∷ np ∷ []) (v ∷ p ∷ []) ≡ true → (length nv ≤ length v) × (length np ≤ length p)
unfolding all_begin
on_lengths nv np v p e =
    (begins_length nv v (and_left (begins nv v) (begins np p && true) e), begins_length np p (and_left (begins np p) true (and_right (begins nv v) (begins np p && true) e)))

-- what is still to be looked at: x stands in the tries f exactly if the key of what is left of it stands in those of the bytes t
pub record Walk (t v p r : List ℕ) (above : Option Dimension) (f : Forest) (x : Key) : Type 0 where
  pub over : Forest
  pub shaped : Regular 2 over
  pub bytes : t ≡ encode over
  pub same : member (above_of above) over (key_of v p r) ≡ member root f x

module _ {t v p r : List ℕ} {above : Option Dimension} {f : Forest} {x : Key} (w : Walk t v p r above f x) where
  pub walk_end : None ≡ head_of w.over → false ≡ member root f x
  walk_end e = sym (ap (λ (g : Forest). member (above_of above) g (key_of v p r)) (head_end w.over e) ∙ nothing (above_of above) (key_of v p r)) ∙ w.same

  -- ---- at a node
  module _ (h : Head) (e : Some h ≡ head_of w.over) where
    abbrev node_strings : Strings
    node_strings = h.value ∷ h.path ∷ []

    as_leaf : h.kind ≡ Leaf → LeafView w.over h
    as_leaf z = leaf_view h w.over w.shaped e z

    as_inner : (d : Dimension) → h.kind ≡ Inner d → InnerView w.over h d
    as_inner d z = inner_view h w.over d w.shaped e z

    abbrev here : Forest → Bool
    here g = member (above_of above) g (key_of v p r)

    -- the key's byte leads elsewhere: the later siblings
    pub walk_past : meets (above_of above) node_strings (v ∷ p ∷ []) ≡ false → Walk h.rest v p r above f x
    walk_past m =
        ⊎_elim
        (λ z. let g = as_leaf z in
        record {
          over = g.more;
          shaped = g.shaped;
          bytes = g.rest_is;
          same = sym (ap here g.is ∙ leaf_past (above_of above) g.strings g.more (key_of v p r) g.suffixes (rw g.strings_are at m)) ∙ w.same;
        })
        (λ z. let g = as_inner z.0 z.1 in
        record {
          over = g.more;
          shaped = g.shaped;
          bytes = g.rest_is;
          same = sym (ap here g.is ∙ inner_past (above_of above) g.strings g.more (key_of v p r) (number_of z.0) g.children (rw g.strings_are at m)) ∙ w.same;
        })
        (kind? h.kind)

    -- it leads here, and the strings differ: nowhere
    pub walk_off : meets (above_of above) node_strings (v ∷ p ∷ []) ≡ true → all_begin node_strings (v ∷ p ∷ []) ≡ false → false ≡ member root f x
    walk_off m o =
        ⊎_elim
        (λ z. let g = as_leaf z in
        sym (ap here g.is ∙ leaf_off (above_of above) g.strings g.more (key_of v p r) g.suffixes (rw g.strings_are at m) (rw g.strings_are at o)) ∙ w.same)
        (λ z. let g = as_inner z.0 z.1 in
        sym (ap here g.is ∙ inner_off (above_of above) g.strings g.more (key_of v p r) (number_of z.0) g.children (rw g.strings_are at m) (rw g.strings_are at o)) ∙ w.same)
        (kind? h.kind)

    abbrev left : Key
    left = key_of (part (length h.value) (length v) v) (part (length h.path) (length p) p) r

    -- what is left of the key
    left_is : (s : Strings) → length s ≡ 2 → h.value ≡ at 0 s → h.path ≡ at 1 s → remains s (key_of v p r) ≡ left
    left_is s wide a b =
        let c : length (at 0 s) ≡ length h.value = ap length (sym a) in
        let d : length (at 1 s) ≡ length h.path = ap length (sym b) in
        rw (part_from v (length h.value), part_from p (length h.path), ← c, ← d, two s wide) (rest_two (at 0 s) (at 1 s) v p r)

    module _ (m : meets (above_of above) node_strings (v ∷ p ∷ []) ≡ true) (o : all_begin node_strings (v ∷ p ∷ []) ≡ true) where
      -- it leads here, and to a leaf
      pub walk_leaf : h.kind ≡ Leaf → (b : Bool) → ((ts : List Key) → All Fixed ts → h.body ≡ suffixes_bytes ts → b ≡ among left ts) → b ≡ member root f x
      walk_leaf z b y =
          let g = as_leaf z in
          y g.suffixes g.fixed g.body_is
          ∙ ap (λ (k : Key). among k g.suffixes) (sym (left_is g.strings g.wide g.value_is g.path_is))
          ∙ sym (ap here g.is ∙ leaf_in (above_of above) g.strings g.more (key_of v p r) g.suffixes (rw g.strings_are at m) (rw g.strings_are at o))
          ∙ w.same

      -- .. and to an inner node: its children
      pub walk_down : (d : Dimension) → h.kind ≡ Inner d → Walk h.body (part (length h.value) (length v) v) (part (length h.path) (length p) p) r (Some d) f x
      walk_down d z =
          let g = as_inner d z in
          record {
            over = g.children;
            shaped = g.lower;
            bytes = g.body_is;
            same =
                ap (λ (k : Key). member (below (number_of d)) g.children k) (sym (left_is g.strings g.wide g.value_is g.path_is))
                ∙ sym (ap here g.is ∙ inner_in (above_of above) g.strings g.more (key_of v p r) (number_of d) g.children (rw g.strings_are at m) (rw g.strings_are at o))
                ∙ w.same;
          }
