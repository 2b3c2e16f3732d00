-- THE NODES ABOVE A KEY'S LEAF, in a sound trie, are those of its walk: a key goes on with the strings of the nodes above it, and with those of no
-- sibling before them, since their branching bytes differ. Assumes nothing.
use Prim.Native.Nat.{ℕ, suc, ◌+◌}
use mathlib.Core.Path.{◌≡◌, refl, sym, ap, ap₂, ◌∙◌}
use mathlib.Core.Bool.{false, cond, ◌&&◌}
use mathlib.Core.List.{List, [], ◌∷◌, ◌++◌, append_assoc, append-nil, map}
use native.Mathlib.Omega.{arith}
use lib.ListN.{length}
use borrow.Author.Tests.{eq-eqb}
use Rattle.buffer.specs.Lists.{All, nil, pick, flat}
use Rattle.buffer.proofs.Lists.{all_head, all_tail, all_imp, all_both, all_append, all_map, all_pick, pick_append, map_append, map_agree}
use Rattle.buffer.proofs.Tests.{not-true}
use Rattle.trie_theory.specs.Forest.{Strings, Key, Forest, none, leaf, inner, join, under, keys, tops}
use Rattle.trie_theory.specs.Strings.{begins, all_begin}
use Rattle.trie_theory.specs.Dimensions.{Above, below, branching}
use Rattle.trie_theory.specs.Sound.{Node, Sound}
use Rattle.trie_theory.specs.Encode.{Regular}
use Rattle.trie_theory.specs.Walk.{Step, step_at, walk}
use Rattle.trie_theory.proofs.Prefix.{From, all_begin_prefixes, prefixes_all_begin}
use Rattle.trie_theory.proofs.Branching.{branching_prefix}
use Rattle.trie_theory.proofs.Strings.{length_join}
use Rattle.trie_theory.proofs.Keys.{keys_from, from_under, all_keys}
use Rattle.trie_theory.proofs.SoundLaws.{wide_keys}
use Rattle.book.specs.Records.{step_bytes}
use Rattle.gather.specs.KeySlots.{has_slot}
use Rattle.gather.proofs.Splitting.{blank}
use Rattle.read_back.specs.Walks.{node_of, key_record, records_below}

-- ---- siblings

-- what stands behind the same bytes goes on as it does without them
begins_behind : (k p s : List ℕ) → begins (k ++ p) (k ++ s) ≡ begins p s
unfolding begins
begins_behind [] p s = refl
begins_behind (b ∷ k) p s = rw (eq-eqb b b refl) (begins_behind k p s)

goes_on_behind : (k p s : Strings) → length k ≡ length p → length p ≡ length s → all_begin (join k p) (join k s) ≡ all_begin p s
unfolding all_begin join
goes_on_behind [] p s h l = refl
goes_on_behind (a ∷ k) [] s h l = absurd (omega arith)
goes_on_behind (a ∷ k) (b ∷ p) [] h l = absurd (omega arith)
goes_on_behind (a ∷ k) (b ∷ p) (c ∷ s) h l = ap₂ ◌&&◌ (begins_behind a b c) (goes_on_behind k p s (omega arith) (omega arith))

-- the keys of siblings have other branching bytes
others : (n : ℕ) (above : Above) (b : ℕ) (f : Forest) → Sound n above f → All (λ t. b ≡ branching above t → ⊥) (tops f)
    → All (λ x. b ≡ branching above x.strings → ⊥) (keys [] f)
unfolding Sound tops keys join
others n above b none s a = nil
others n above b (leaf t ts more) s a =
    all_append (all_imp (λ x h e. all_head a (e ∙ sym (branching_prefix above t x.strings s.0.starts h))) (from_under t ts))
    (others n above b more s.3 (all_tail a))
others n above b (inner d t children more) s a =
    all_append {xs = keys t children} (all_imp (λ x h e. all_head a (e ∙ sym (branching_prefix above t x.strings s.0.starts h))) (all_keys t children))
    (others n above b more s.3 (all_tail a))

-- so they do not go on with the strings s
pub not_on : (n : ℕ) (above : Above) (k s : Strings) (more : Forest) → length k ≡ n → Node n above s more → Sound n above more
    → All (λ x. all_begin (join k s) x.strings ≡ false) (keys k more)
unfolding under
not_on n above k s more w h f =
    rw (keys_from k more)
    (all_map (under k)
    (λ y q. not-true (all_begin (join k s) (join k y.strings))
    (λ e. q.1 (branching_prefix above s y.strings h.starts
    (all_begin_prefixes s y.strings (sym (goes_on_behind k s y.strings (w ∙ sym h.wide) (h.wide ∙ sym q.0)) ∙ e)))))
    (all_both (wide_keys n above more f) (others n above (branching above s) more f h.apart)))

-- ---- the way of a key

-- the record of a key below n nodes and its own
unfoldable pub way_record : ℕ → List ℕ → List Step → Key → List ℕ
way_record n way steps x = key_record (n + length steps) (way ++ flat (map step_bytes steps)) x

way_end : (n : ℕ) (way : List ℕ) (x : Key) → way_record n way [] x ≡ key_record n way x
unfolding way_record flat
way_end n way x = let z : n + 0 ≡ n = omega arith in ap₂ (λ (i : ℕ) (w : List ℕ). key_record i w x) z (append-nil way)

way_step : (n : ℕ) (way : List ℕ) (k : Strings) (amount kind : ℕ) (steps : List Step) (x : Key)
    → way_record n way (step_at k amount kind ∷ steps) x ≡ way_record (n + 1) (way ++ node_of k kind) steps x
unfolding way_record flat node_of step_bytes step_at
way_step n way k amount kind steps x =
    let z : n + suc (length steps) ≡ n + 1 + length steps = omega arith in
    ap₂ (λ (i : ℕ) (w : List ℕ). key_record i w x) z (sym (append_assoc way (node_of k kind) (flat (map step_bytes steps))))

module _ (n : ℕ) (way : List ℕ) (k s : Strings) (more : Forest) where
  leaf_on : (ts : List Key) (x : Key) → From (join k s) x → way_record n way (walk k (leaf s ts more) x) x ≡ key_record (n + 1) (way ++ node_of (join k s) 0) x
  unfolding walk
  leaf_on ts x h =
      rw (prefixes_all_begin (join k s) x.strings h)
      (way_step n way (join k s) (length ts) 0 [] x ∙ way_end (n + 1) (way ++ node_of (join k s) 0) x)

  inner_on : (d : ℕ) (children : Forest) (x : Key) → From (join k s) x
      → way_record n way (walk k (inner d s children more) x) x ≡ way_record (n + 1) (way ++ node_of (join k s) (suc d)) (walk (join k s) children x) x
  unfolding walk
  inner_on d children x h =
      rw (prefixes_all_begin (join k s) x.strings h) (way_step n way (join k s) (length (keys (join k s) children)) (suc d) (walk (join k s) children x) x)

  leaf_past : (ts : List Key) (x : Key) → all_begin (join k s) x.strings ≡ false → way_record n way (walk k (leaf s ts more) x) x ≡ way_record n way (walk k more x) x
  unfolding walk
  leaf_past ts x h = rw h

  inner_past : (d : ℕ) (children : Forest) (x : Key) → all_begin (join k s) x.strings ≡ false
      → way_record n way (walk k (inner d s children more) x) x ≡ way_record n way (walk k more x) x
  unfolding walk
  inner_past d children x h = rw h

-- two lists of keys that have a slot
two_picked : (g : Key → List ℕ) (a b : Key → List ℕ) (xs ys : List Key) → All (λ x. g x ≡ a x) xs → All (λ x. g x ≡ b x) ys
    → map a (pick has_slot xs) ++ map b (pick has_slot ys) ≡ map g (pick has_slot (xs ++ ys))
two_picked g a b xs ys p q =
    let e : map g (pick has_slot xs) ≡ map a (pick has_slot xs) = map_agree (all_imp (λ x h. h.0) (all_pick has_slot p)) in
    let f : map g (pick has_slot ys) ≡ map b (pick has_slot ys) = map_agree (all_imp (λ x h. h.0) (all_pick has_slot q)) in
    ap₂ ◌++◌ (sym e) (sym f) ∙ sym (map_append g (pick has_slot xs) (pick has_slot ys)) ∙ ap (map g) (sym (pick_append has_slot xs ys))

pub records_walk : (above : Above) (n : ℕ) (way : List ℕ) (k : Strings) (f : Forest) → length k ≡ 2 → Sound 2 above f
    → records_below n way k f ≡ map (λ x. way_record n way (walk k f x) x) (pick has_slot (keys k f))
unfolding records_below keys Sound pick
records_walk above n way k none w s = refl
records_walk above n way k (leaf t ts more) w s =
    let xs = map (under (join k t)) ts in
    ap (λ (l : List (List ℕ)). map (key_record (n + 1) (way ++ node_of (join k t) 0)) (pick has_slot xs) ++ l) (records_walk above n way k more w s.3)
    ∙ two_picked (λ x. way_record n way (walk k (leaf t ts more) x) x) (key_record (n + 1) (way ++ node_of (join k t) 0)) (λ x. way_record n way (walk k more x) x) xs (keys k more)
    (all_imp (leaf_on n way k t more ts) (from_under (join k t) ts))
    (all_imp (leaf_past n way k t more ts) (not_on 2 above k t more w s.0 s.3))
records_walk above n way k (inner d t children more) w s =
    let l : length (join k t) ≡ 2 = length_join k t (w ∙ sym s.0.wide) ∙ w in
    ap₂ ◌++◌ (records_walk (below d) (n + 1) (way ++ node_of (join k t) (suc d)) (join k t) children l s.2) (records_walk above n way k more w s.3)
    ∙ two_picked (λ x. way_record n way (walk k (inner d t children more) x) x) (λ x. way_record (n + 1) (way ++ node_of (join k t) (suc d)) (walk (join k t) children x) x)
    (λ x. way_record n way (walk k more x) x) (keys (join k t) children) (keys k more)
    (all_imp (inner_on n way k t more d children) (all_keys (join k t) children))
    (all_imp (inner_past n way k t more d children) (not_on 2 above k t more w s.0 s.3))

-- ---- the root: nothing is known

pub walk_root : (f : Forest) (x : Key) → Regular 2 f → walk ([] ∷ [] ∷ []) f x ≡ walk [] f x
unfolding walk Regular join
walk_root none x h = refl
walk_root (leaf s ts more) x h =
    ap₂ (λ (l : Strings) (r : List Step). cond (all_begin l x.strings) (step_at l (length ts) 0 ∷ []) r) (blank s h.0) (walk_root more x h.2)
walk_root (inner d s children more) x h =
    ap₂ (λ (l : Strings) (r : List Step). cond (all_begin l x.strings) (step_at l (length (keys l children)) (suc d) ∷ walk l children x) r) (blank s h.0) (walk_root more x h.2)
