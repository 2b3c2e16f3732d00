-- A sound trie whose keys have slots and formed paths: its nodes have room, what is known there begins a path, and what the walk finds is what a search of it finds. Assumes nothing.
use mathlib.Core.Path.{◌≡◌, refl, sym, ap, ap₂, subst, ◌∙◌}
use mathlib.Core.Bool.{Bool, true, cond}
use Prim.Native.Nat.{ℕ, ◌+◌, ◌≤◌}
use mathlib.Core.List.{List, [], ◌∷◌, ◌++◌, map}
use native.Mathlib.Omega.{arith}
use lib.ListN.{length}
use Rattle.buffer.specs.Lists.{all, All, pick}
use Rattle.buffer.proofs.Lists.{all_head, all_left, all_right, tested_left, tested_right}
use Rattle.buffer.proofs.Tests.{and_left, and_right}
use Rattle.matcher.specs.Continued.{FirstBytes}
use Rattle.matcher.proofs.Firsts.{first_before}
use Rattle.rows.specs.Sizes.{node_limit}
use Rattle.trie_theory.specs.Forest.{Strings, Key, Forest, none, leaf, inner, join, under, keys, tops}
use Rattle.trie_theory.specs.Strings.{at}
use Rattle.trie_theory.specs.Dimensions.{Above, root, below}
use Rattle.trie_theory.specs.Sound.{Sound}
use Rattle.trie_theory.specs.Search.{enters, found, nodes_entered}
use Rattle.trie_theory.specs.Encode.{Regular}
use Rattle.entries.specs.Query.{Query, reaches, wants}
use Rattle.trie_theory.proofs.Strings.{at_join}
use Rattle.gather.specs.KeySlots.{has_slot, known}
use Rattle.entries.specs.declared.known.Known.{Known}
use Rattle.gather.specs.declared.output.Output.{Output}
use Rattle.gather.proofs.Filling.{slotted}
pub use Rattle.gather.proofs.Filling.{entry_row}
use Rattle.gather.proofs.Gathering.{known_nothing}
use Rattle.gather.proofs.Splitting.{join_longer, blank, keys_root}
use Rattle.search.specs.Steps.{takes}
use Rattle.search.specs.Searches.{OfPath, TrieSearched, TrieFound, TriesFound, AtNode, NodesFit, Walked}

-- ---- room

node_join : (k s : Strings) → AtNode (join k s) → AtNode k
node_join k s h = ((omega (arith, h.0.0, join_longer 0 k s), omega (arith, h.0.1, join_longer 1 k s)), first_before (at 1 k) (at 1 s) (subst FirstBytes (at_join 1 k s) h.1))

node_under : (k : Strings) (x : Key) → has_slot (under k x) ≡ true → OfPath (under k x) → AtNode k
unfolding under
node_under k x h f = let w = slotted (under k x) h in node_join k x.strings ((omega (arith, w.value), w.short), f)

node_leaf : (k : Strings) (ts : List Key) → 1 ≤ length ts → all has_slot (map (under k) ts) ≡ true → All OfPath (map (under k) ts) → AtNode k
node_leaf k [] l h a = absurd (omega arith)
node_leaf k (t ∷ ts) l h a = node_under k t (and_left (has_slot (under k t)) (all has_slot (map (under k) ts)) h) (all_head a)

-- the bytes known above tries that are not empty
node_tries : (n : ℕ) (above : Above) (k : Strings) (f : Forest) → Sound n above f → 1 ≤ length (tops f) → all has_slot (keys k f) ≡ true → All OfPath (keys k f) → AtNode k
unfolding Sound keys tops
node_tries n above k none s l h a = absurd (omega arith)
node_tries n above k (leaf c ts more) s l h a =
    node_join k c (node_leaf (join k c) ts s.1 (tested_left has_slot (map (under (join k c)) ts) (keys k more) h) (all_left (map (under (join k c)) ts) (keys k more) a))
node_tries n above k (inner d c children more) s l h a =
    node_join k c (node_tries n (below d) (join k c) children s.2 (omega (arith, s.1)) (tested_left has_slot (keys (join k c) children) (keys k more) h) (all_left (keys (join k c) children) (keys k more) a))

pub nodes_fit : (n : ℕ) (above : Above) (k : Strings) (f : Forest) → Sound n above f → all has_slot (keys k f) ≡ true → All OfPath (keys k f) → NodesFit k f
unfolding Sound keys NodesFit
nodes_fit n above k none s h a = tt
nodes_fit n above k (leaf c ts more) s h a =
    let xs = map (under (join k c)) ts in
    (node_leaf (join k c) ts s.1 (tested_left has_slot xs (keys k more) h) (all_left xs (keys k more) a), nodes_fit n above k more s.3 (tested_right has_slot xs (keys k more) h) (all_right xs (keys k more) a))
nodes_fit n above k (inner d c children more) s h a =
    let xs = keys (join k c) children in
    let own = tested_left has_slot xs (keys k more) h in
    let path = all_left xs (keys k more) a in (
      node_tries n (below d) (join k c) children s.2 (omega (arith, s.1)) own path,
      nodes_fit n (below d) (join k c) children s.2 own path,
      nodes_fit n above k more s.3 (tested_right has_slot xs (keys k more) h) (all_right xs (keys k more) a),
    )

-- ---- what matches has a slot

pick_takes : (q : Query) (xs : List Key) → all has_slot xs ≡ true → pick (wants q) xs ≡ pick (takes q) xs
unfolding pick takes
pick_takes q [] h = refl
pick_takes q (x ∷ xs) h =
    rw (and_left (has_slot x) (all has_slot xs) h)
    (ap (λ (l : List Key). cond (wants q x) (x ∷ l) l) (pick_takes q xs (and_right (has_slot x) (all has_slot xs) h)))

found_takes : (q : Query) (reach : Strings → Bool) (above : Above) (k : Strings) (f : Forest) → all has_slot (keys k f) ≡ true
    → found reach (wants q) above k f ≡ found reach (takes q) above k f
unfolding found keys
found_takes q reach above k none h = refl
found_takes q reach above k (leaf s ts more) h =
    let xs = map (under (join k s)) ts in
    ap₂ ◌++◌ (ap (λ (l : List Key). cond (enters reach above k s) l []) (pick_takes q xs (tested_left has_slot xs (keys k more) h)))
    (found_takes q reach above k more (tested_right has_slot xs (keys k more) h))
found_takes q reach above k (inner d s children more) h =
    let xs = keys (join k s) children in
    ap₂ ◌++◌ (ap (λ (l : List Key). cond (enters reach above k s) l []) (found_takes q reach (below d) (join k s) children (tested_left has_slot xs (keys k more) h)))
    (found_takes q reach above k more (tested_right has_slot xs (keys k more) h))

-- ---- the root: nothing is known

abbrev nothing : Strings
nothing = [] ∷ [] ∷ []

found_root : (reach : Strings → Bool) (m : Key → Bool) (f : Forest) → Regular 2 f → found reach m root nothing f ≡ found reach m root [] f
unfolding found enters Regular join
found_root reach m none h = refl
found_root reach m (leaf s ts more) h = ap₂ ◌++◌ (ap (λ (l : Strings). pick m (map (under l) ts)) (blank s h.0)) (found_root reach m more h.2)
found_root reach m (inner d s children more) h = ap₂ ◌++◌ (ap (λ (l : Strings). found reach m (below d) l children) (blank s h.0)) (found_root reach m more h.2)

nodes_root : (reach : Strings → Bool) (f : Forest) → Regular 2 f → nodes_entered reach root nothing f ≡ nodes_entered reach root [] f
unfolding nodes_entered enters Regular join
nodes_root reach none h = refl
nodes_root reach (leaf s ts more) h = ap (λ (n : ℕ). 1 + n) (nodes_root reach more h.2)
nodes_root reach (inner d s children more) h =
    ap₂ (λ (x y : ℕ). 1 + x + y) (ap (λ (l : Strings). nodes_entered reach (below d) l children) (blank s h.0)) (nodes_root reach more h.2)

whole : (k : List ℕ) {q : Query} {t : List ℕ} {ks : List Key} {e : ℕ} → TrieFound q t ks e → TriesFound q root node_limit (known 0 0 k) t ks e
whole k {q} w =
    let f = w.tries in
    let slots : all has_slot (keys nothing f) ≡ true = ap (all has_slot) (keys_root f w.regular) ∙ w.slots in
    let paths : All OfPath (keys nothing f) = subst (All OfPath) (sym (keys_root f w.regular)) w.paths in
    rw (known_nothing k)
    record {
      tries = f;
      regular = w.regular;
      sound = w.sound;
      high = w.high;
      nodes_fit = nodes_fit 2 root nothing f w.sound slots paths;
      paths = paths;
      rises = w.rises;
      bytes = w.bytes;
      is = w.is ∙ sym (found_root (reaches q) (wants q) f w.regular) ∙ found_takes q (reaches q) root nothing f slots;
      entered = w.entered ∙ sym (nodes_root (reaches q) f w.regular);
    }

pub trie_searched : {q : Query} {x : Known} {d : ℕ} {t k k' : List ℕ} {o o' : Output} → Walked (TriesFound q root node_limit (known 0 0 k) t) x t o o' k k' d → TrieSearched q t o o' d
trie_searched {k = k} w =
    let i = w.searched in
    record {
      put = i.rows.put;
      fit = i.rows.fit;
      rows_are = i.rows.count;
      few_rows = w.few_rows;
      few_nodes = w.few_nodes;
      room = w.room;
      same_reference = w.same_reference;
      long = i.rows.long;
      writes = i.rows.writes;
      are = λ ks e f. let z = i.are ks e (whole k f) in (z.0, omega (arith, z.1, i.count));
    }
