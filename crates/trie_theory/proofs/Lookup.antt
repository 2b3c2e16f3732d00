-- THE LOOKUP THEOREM: in a sound trie the walk finds a key exactly if it is among the trie's keys. Of siblings only that
-- their branching bytes differ is used.
use Prim.Native.Nat.{ℕ}
use mathlib.Core.Path.{◌≡◌, refl, sym, ap, ap₂, ◌∙◌}
use mathlib.Core.Bool.{Bool, true, false, cond, ◌&&◌, ◌||◌}
use mathlib.Core.List.{List, [], map}
use mathlib.Core.Logic.{◌↔◌}
use lib.ListN.{length}
use lib.Dec.{eqb}
use Rattle.trie_theory.specs.Forest.{Strings, Key, Forest, none, leaf, inner, join, under, keys, tops}
use Rattle.buffer.specs.Lists.{All, nil, cons, any, same}
use Rattle.trie_theory.specs.Strings.{all_begin, remains}
use Rattle.trie_theory.specs.Dimensions.{Above, below, branching}
use Rattle.trie_theory.specs.SmallTrie.{meets}
use Rattle.trie_theory.specs.Lookup.{same_key, among, member}
use Rattle.trie_theory.specs.Sound.{Node, Sound}
use Rattle.buffer.proofs.Lists.{In, at_head, later, all_head, all_tail, all_imp, any_append}
use Rattle.buffer.proofs.Tests.{and_left, and_right, and_both, or_right, bool_ext}
use Rattle.buffer.proofs.Lists.{any_in, bytes_true, bytes_refl, strings_true, strings_refl}
use Rattle.trie_theory.proofs.Prefix.{prefixes_all_begin, all_begin_prefixes, prefixes_join}
use Rattle.trie_theory.proofs.Strings.{strip_join}
use Rattle.trie_theory.proofs.Branching.{branching_prefix, meets_true, meets_false, meets_apart}
use Rattle.trie_theory.proofs.Keys.{keys_from, under_remains}
use Rattle.trie_theory.proofs.SoundLaws.{wide_keys}

-- the test of equal keys is right, both ways
pub same_key_true : (x y : Key) → same_key x y ≡ true → x ≡ y
unfolding same_key
same_key_true x y e =
    ap₂ (λ (s : Strings) (r : List ℕ). record { strings = s; reference = r })
    (strings_true x.strings y.strings (and_left strings_same reference_same e))
    (bytes_true x.reference y.reference (and_right strings_same reference_same e))
  where
    strings_same : Bool
    strings_same = same (same eqb) x.strings y.strings

    reference_same : Bool
    reference_same = same eqb x.reference y.reference

pub same_key_refl : (x : Key) → same_key x x ≡ true
unfolding same_key
same_key_refl x = and_both (strings_refl x.strings) (bytes_refl x.reference)

pub same_key_of : (x y : Key) → x ≡ y → same_key x y ≡ true
same_key_of x y e = ap (same_key x) (sym e) ∙ same_key_refl x

in_any : (t : Key → Bool) {x : Key} {xs : List Key} → In x xs → t x ≡ true → any t xs ≡ true
unfolding any
in_any t (at_head) e = rw e
in_any t (later {y = y} {xs = xs} i) e = or_right (t y) (any t xs) (in_any t i e)

-- X IS AMONG A LIST exactly if it stands there. No proof cites it: it says what `among` is
pub among_in : (x : Key) (ys : List Key) → (among x ys ≡ true) ↔ In x ys
unfolding among
among_in x ys =
    (λ e. let r = any_in (same_key x) ys e in rw (same_key_true x r.0 r.2) r.1, λ i. in_any (same_key x) i (same_key_refl x))

remains_under : (s : Strings) (y : Key) → length s ≡ length y.strings → remains s (under s y) ≡ y
unfolding remains under
remains_under s y h = ap (λ (l : Strings). record { strings = l; reference = y.reference }) (strip_join s y.strings h)

-- x is a key below the strings s: it agrees with them, and what remains of it is the rest
same_under : (s : Strings) (x y : Key) → length s ≡ length y.strings
    → same_key x (under s y) ≡ all_begin s x.strings && same_key (remains s x) y
unfolding under
same_under s x y h = bool_ext (same_key x (under s y)) (all_begin s x.strings && same_key (remains s x) y) down up
  where
    down : same_key x (under s y) ≡ true → all_begin s x.strings && same_key (remains s x) y ≡ true
    down e =
        let q : x ≡ under s y = same_key_true x (under s y) e in
        and_both (ap (λ (z : Key). all_begin s z.strings) q ∙ prefixes_all_begin s (join s y.strings) (prefixes_join s y.strings))
        (same_key_of (remains s x) y (ap (remains s) q ∙ remains_under s y h))

    up : all_begin s x.strings && same_key (remains s x) y ≡ true → same_key x (under s y) ≡ true
    up e =
        let g = and_left (all_begin s x.strings) (same_key (remains s x) y) e in
        let r = same_key_true (remains s x) y (and_right (all_begin s x.strings) (same_key (remains s x) y) e) in
        same_key_of x (under s y) (sym (under_remains s x (all_begin_prefixes s x.strings g)) ∙ ap (under s) r)

among_under : (s : Strings) (x : Key) {ys : List Key} → All (λ y. length s ≡ length y.strings) ys
    → among x (map (under s) ys) ≡ all_begin s x.strings && among (remains s x) ys
unfolding among any
among_under s x nil = sym (and_false (all_begin s x.strings))
  where
    and_false : (a : Bool) → a && false ≡ false
    and_false true = refl
    and_false false = refl
among_under s x (cons {x = y} {xs = ys} h a) =
    ap₂ ◌||◌ (same_under s x y h) (among_under s x a)
    ∙ and_or (all_begin s x.strings) (same_key (remains s x) y) (any (same_key (remains s x)) ys)
  where
    and_or : (a b c : Bool) → (a && b) || (a && c) ≡ a && (b || c)
    and_or true b c = refl
    and_or false b c = refl

-- a walk that has a node's byte finds nothing in its later siblings
passed : (above : Above) (s : Strings) (more : Forest) (x : Key)
    → All (λ t. branching above s ≡ branching above t → ⊥) (tops more) → branching above s ≡ branching above x.strings
    → member above more x ≡ false
unfolding tops member
passed above s none x a e = refl
passed above s (leaf t ts more) x a e =
    rw (meets_apart above t x.strings (λ q. all_head a (e ∙ sym q))) (passed above s more x (all_tail a) e)
passed above s (inner d t children more) x a e =
    rw (meets_apart above t x.strings (λ q. all_head a (e ∙ sym q))) (passed above s more x (all_tail a) e)

-- one node: `mine` is what it finds, all of it agreeing with its strings, and `others` what its siblings hold
here_or_later : (n : ℕ) (above : Above) (s : Strings) (x : Key) (more : Forest) (mine others : Bool) → Node n above s more
    → member above more x ≡ others
    → cond (meets above s x.strings) (all_begin s x.strings && mine) (member above more x) ≡ (all_begin s x.strings && mine) || others
here_or_later n above s x more mine others h e = go (meets above s x.strings) refl (all_begin s x.strings) refl
  where
    or_false : (a : Bool) → a ≡ a || false
    or_false true = refl
    or_false false = refl

    go : (w : Bool) → meets above s x.strings ≡ w → (b : Bool) → all_begin s x.strings ≡ b
        → cond w (b && mine) (member above more x) ≡ (b && mine) || others
    go true p b q =
        or_false (b && mine)
        ∙ ap (λ (y : Bool). (b && mine) || y) (sym (sym e ∙ passed above s more x h.apart (meets_true above s x.strings p)))
    go false p true q =
        absurd (meets_false above s x.strings p (branching_prefix above s x.strings h.starts (all_begin_prefixes s x.strings q)))
    go false p false q = e

pub member_among : (n : ℕ) (above : Above) (f : Forest) (x : Key) → Sound n above f → member above f x ≡ among x (keys [] f)
unfolding member keys join Sound among any
member_among n above none x h = refl
member_among n above (leaf s ts more) x h =
    here_or_later n above s x more (among (remains s x) ts) (among x (keys [] more)) h.0 (member_among n above more x h.3)
    ∙ ap (λ (b : Bool). b || among x (keys [] more)) (sym (among_under s x (all_imp (λ y e. h.0.wide ∙ sym e) h.2)))
    ∙ sym (any_append (same_key x) (map (under s) ts) (keys [] more))
member_among n above (inner d s children more) x h =
    ap (λ (b : Bool). cond (meets above s x.strings) (all_begin s x.strings && b) (member above more x))
    (member_among n (below d) children (remains s x) h.2)
    ∙ here_or_later n above s x more (among (remains s x) (keys [] children)) (among x (keys [] more)) h.0
    (member_among n above more x h.3)
    ∙ ap (λ (b : Bool). b || among x (keys [] more))
    (sym (among_under s x (all_imp (λ y e. h.0.wide ∙ sym e) (wide_keys n (below d) children h.2)))
    ∙ ap (among x) (sym (keys_from s children)))
    ∙ sym (any_append (same_key x) (keys s children) (keys [] more))
