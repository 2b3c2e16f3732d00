-- The turns over siblings: what a search finds in tries is what it finds below the first node, if it enters it, and then in the others. Assumes nothing.
use mathlib.Core.Path.{◌≡◌, refl, sym, ap, subst, ◌∙◌}
use mathlib.Core.Bool.{Bool, true, false, ◌&&◌}
use mathlib.Core.Logic.{⊎_elim}
use Prim.Native.Nat.{ℕ, ◌+◌, ◌-◌}
use mathlib.Core.List.{List, [], ◌∷◌, ◌++◌, map}
use native.Mathlib.Omega.{arith}
use lib.ListN.{length, take, length-append}
use lib.Seq.{length-take-le}
use borrow.Author.Tests.{le-leb}
use Rattle.buffer.specs.Lists.{pick}
use Rattle.buffer.specs.Splice.{region}
use Rattle.buffer.proofs.Lists.{all_imp, all_both}
use Rattle.buffer.proofs.Splice.{length_region}
use Rattle.buffer.proofs.Tests.{and_right, and_both, not_both, same?}
use Rattle.matcher.specs.Continued.{FirstBytes}
use Rattle.rows.specs.Sizes.{value_size, path_at}
use Rattle.trie_theory.specs.Forest.{Strings, Key, Forest, join, under}
use Rattle.trie_theory.specs.Strings.{at}
use Rattle.trie_theory.specs.Dimensions.{Above, below, branching}
use Rattle.trie_theory.specs.Sound as Sound
use Rattle.trie_theory.specs.Search.{enters, found, nodes_entered}
use Rattle.trie_theory.specs.Encode.{Regular, encode}
use Rattle.entries.specs.Slots.{slot_size}
use Rattle.entries.specs.Query.{Query, reaches}
use Rattle.std.specs.Prelude.{Option, Some, None}
use Rattle.std.specs.Option.{option_map}
use Rattle.trie_read.specs.Shape.{above_of}
use Rattle.trie_read.specs.Kinds.{kind_of_byte, number_of}
use Rattle.trie_read.specs.Heads.{head_of, head_in}
use Rattle.trie_read.specs.declared.head.Node.{Node}
use Rattle.trie_read.specs.declared.kind.Dimension.{Dimension}
use Rattle.trie_read.specs.declared.kind.Kind.{Kind}
use Rattle.trie_read.specs.declared.kind.Kind.TheVariants.{Leaf, Inner}
use Rattle.trie_read.proofs.Node.{leaf_view, inner_view, head_end, kind?}
use Rattle.gather.specs.KeySlots.{ended_limit, has_room, known}
use Rattle.gather.specs.Walks.{known_strings}
use Rattle.entries.specs.declared.known.Known.{Known}
use Rattle.gather.specs.declared.output.Output.{Output}
use Rattle.gather.proofs.Filling.{known_less}
use Rattle.gather.proofs.Splitting.{leaf_high, inner_high}
use Rattle.search.specs.Steps.{takes, OneByte, Descended}
use Rattle.search.specs.Searches.{SuffixesFound, TriesFound, BodyFound, Walked, Short, AtNode}
use Rattle.search.proofs.Steps.{node_path}
use Rattle.search.proofs.Nodes.{found_none, found_low, leaf_in, leaf_out, inner_in, inner_out, none_in, tops_sound, leaf_sound, inner_sound, leaf_roomy, inner_roomy, leaf_keys, inner_keys}
use Rattle.search.proofs.Finding.{finding_on, finding_less, Going, going_done, Parts, searched_none}

-- ---- tries

-- the siblings behind a node with the strings s that is entered
pub record Later (q : Query) (above : Above) (depth : ℕ) (k s : Strings) (t : List ℕ) (ks : List Key) (e : ℕ) : Type 0 where
  pub found : TriesFound q above depth k t ks e
  pub node : Sound.Node 2 above s found.tries
  pub entered : enters (reaches q) above k s ≡ true

-- where one branching byte alone leads on, the node that is entered has it, and no later one
module _ {q : Query} {above : Above} {k : Strings} (one : OneByte q above k) (s : Strings) where
  its_byte : enters (reaches q) above k s ≡ true → length s ≡ 2 → Sound.Starts above s → branching above s ≡ one.byte
  its_byte entered two starts =
      ⊎_elim (λ (e : branching above s ≡ one.byte). e) (λ (n : branching above s ≡ one.byte → ⊥). not_both entered (one.others s two starts n)) (same? (branching above s) one.byte)

  none_later : {depth : ℕ} {t : List ℕ} (ks : List Key) (e : ℕ) → Later q above depth k s t ks e → (ks ≡ []) × (e ≡ 0)
  none_later ks e h =
      let f = h.found in
      let b = its_byte h.entered h.node.wide h.node.starts in
      let n = none_in (reaches q) (takes q) above k f.tries
      (all_imp (λ x y. one.others x y.0.0 y.0.1 (λ z. y.1 (b ∙ sym z))) (all_both (tops_sound above f.tries f.sound) h.node.apart)) in
      (f.is ∙ n.0, f.entered ∙ n.1)

-- a node more
pub record OneMore (A : List Key → ℕ → Type 0) (ks : List Key) (e : ℕ) : Type 0 where
  pub below : ℕ
  pub has : A ks below
  pub is : e ≡ 1 + below

-- what is found of a body by its kind
of_leaf : {q : Query} {kind : Kind} (depth : ℕ) {k : Strings} {t : List ℕ} {ks : List Key} {e : ℕ} → kind ≡ Leaf → SuffixesFound q k t ks e → BodyFound q kind depth k t ks e
of_leaf depth z s = rw z s

of_inner : {q : Query} {kind : Kind} {d : Dimension} {depth : ℕ} {k : Strings} {t : List ℕ} {ks : List Key} {e : ℕ} → kind ≡ Inner d
    → TriesFound q (below (number_of d)) depth k t ks e → BodyFound q kind depth k t ks e
of_inner z s = rw z s

abbrev node_strings : Node → Strings
node_strings x = x.value.now ∷ x.path.now ∷ []

-- what is read of tries, is the first node
told : (r : Option Node) (x : Node) (f : Forest) → option_map head_in r ≡ head_of f → r ≡ Some x → Some (head_in x) ≡ head_of f
told r x f e z = rw z at e

module _ {q : Query} {above : Above} {depth : ℕ} {k : Strings} {t : List ℕ} {r : Option Node} (is : (f : Forest) → Regular 2 f → t ≡ encode f → option_map head_in r ≡ head_of f) where
  pub tries_end : r ≡ None → (ks : List Key) (e : ℕ) → TriesFound q above depth k t ks e → (ks ≡ []) × (e ≡ 0)
  tries_end z ks e s =
      let n = found_none (reaches q) (takes q) above k s.tries (head_end s.tries (rw z at (is s.tries s.regular s.bytes))) in
      (s.is ∙ n.0, s.entered ∙ n.1)

  module _ (x : Node) (z : r ≡ Some x) where
    -- the strings have room, and the path known begins one
    pub tries_node : (ks : List Key) (e : ℕ) → TriesFound q above depth k t ks e → AtNode (join k (node_strings x))
    tries_node ks e s =
        let h = told r x s.tries (is s.tries s.regular s.bytes) z in
        ⊎_elim
        (λ (y : (kind_of_byte x.byte) ≡ Leaf). let w = leaf_view (head_in x) s.tries s.regular h y in
        rw w.strings_are (leaf_roomy k w.strings w.suffixes w.more (rw w.is at s.nodes_fit)).0)
        (λ (y : (d : Dimension) × ((kind_of_byte x.byte) ≡ Inner d)). let w = inner_view (head_in x) s.tries y.0 s.regular h y.1 in
        rw w.strings_are (inner_roomy k w.strings (number_of y.0) w.children w.more (rw w.is at s.nodes_fit)).0)
        (kind? (kind_of_byte x.byte))

    pub tries_in : enters (reaches q) above k (node_strings x) ≡ true → (ks : List Key) (e : ℕ) → TriesFound q above depth k t ks e
        → Parts (OneMore (BodyFound q (kind_of_byte x.byte) (depth - 1) (join k (node_strings x)) x.body.now)) (Later q above depth k (node_strings x) x.rest.now) ks e
    tries_in y ks e s =
        let h = told r x s.tries (is s.tries s.regular s.bytes) z in
        ⊎_elim
        (λ (o : (kind_of_byte x.byte) ≡ Leaf).
        let w = leaf_view (head_in x) s.tries s.regular h o in
        let n = w.strings_are in
        let f = leaf_in (reaches q) (takes q) above k w.strings w.more w.suffixes (rw n at y) in
        let u = leaf_sound above w.strings w.suffixes w.more (rw w.is at s.sound) in
        let g = leaf_keys k w.strings w.suffixes w.more (rw w.is at s.paths) (rw w.is at s.rises) in
        record {
          first = pick (takes q) (map (under (join k w.strings)) w.suffixes);
          second = found (reaches q) (takes q) above k w.more;
          before = 1;
          behind = nodes_entered (reaches q) above k w.more;
          one = record {
            below = 0;
            has = of_leaf (depth - 1) o (rw n record { suffixes = w.suffixes; fixed = w.fixed; paths = g.0.0; rises = g.0.1; bytes = w.body_is; is = refl; entered = refl });
            is = refl;
          };
          other = record {
            found = record {
              tries = w.more;
              regular = w.shaped;
              sound = u.1;
              high = leaf_high depth w.strings w.suffixes w.more (rw w.is at s.high);
              nodes_fit = (leaf_roomy k w.strings w.suffixes w.more (rw w.is at s.nodes_fit)).1;
              paths = g.1.0;
              rises = g.1.1;
              bytes = w.rest_is;
              is = refl;
              entered = refl;
            };
            node = rw n u.0;
            entered = y;
          };
          is = s.is ∙ ap (found (reaches q) (takes q) above k) w.is ∙ f.0;
          sum = s.entered ∙ ap (nodes_entered (reaches q) above k) w.is ∙ f.1;
        })
        (λ (o : (d : Dimension) × ((kind_of_byte x.byte) ≡ Inner d)).
        let d = number_of o.0 in
        let w = inner_view (head_in x) s.tries o.0 s.regular h o.1 in
        let n = w.strings_are in
        let f = inner_in (reaches q) (takes q) above k w.strings w.more d w.children (rw n at y) in
        let i = inner_high depth d w.strings w.children w.more (rw w.is at s.high) in
        let m = inner_roomy k w.strings d w.children w.more (rw w.is at s.nodes_fit) in
        let u = inner_sound above d w.strings w.children w.more (rw w.is at s.sound) in
        let g = inner_keys k w.strings d w.children w.more (rw w.is at s.paths) (rw w.is at s.rises) in
        record {
          first = found (reaches q) (takes q) (below d) (join k w.strings) w.children;
          second = found (reaches q) (takes q) above k w.more;
          before = 1 + nodes_entered (reaches q) (below d) (join k w.strings) w.children;
          behind = nodes_entered (reaches q) above k w.more;
          one = record {
            below = nodes_entered (reaches q) (below d) (join k w.strings) w.children;
            has = of_inner o.1
                (rw n record { tries = w.children; regular = w.lower; sound = u.1; high = i.0; nodes_fit = m.1; paths = g.0.0; rises = g.0.1; bytes = w.body_is; is = refl; entered = refl });
            is = refl;
          };
          other = record {
            found = record { tries = w.more; regular = w.shaped; sound = u.2; high = i.1; nodes_fit = m.2; paths = g.1.0; rises = g.1.1; bytes = w.rest_is; is = refl; entered = refl };
            node = rw n u.0;
            entered = y;
          };
          is = s.is ∙ ap (found (reaches q) (takes q) above k) w.is ∙ f.0;
          sum = s.entered ∙ ap (nodes_entered (reaches q) above k) w.is ∙ f.1;
        })
        (kind? (kind_of_byte x.byte))

    pub tries_out : enters (reaches q) above k (node_strings x) ≡ false → (ks : List Key) (e : ℕ) → TriesFound q above depth k t ks e
        → TriesFound q above depth k x.rest.now ks e
    tries_out y ks e s =
        let h = told r x s.tries (is s.tries s.regular s.bytes) z in
        ⊎_elim
        (λ (o : (kind_of_byte x.byte) ≡ Leaf).
        let w = leaf_view (head_in x) s.tries s.regular h o in
        let f = leaf_out (reaches q) (takes q) above k w.strings w.more w.suffixes (rw w.strings_are at y) in
        let u = leaf_sound above w.strings w.suffixes w.more (rw w.is at s.sound) in
        let g = leaf_keys k w.strings w.suffixes w.more (rw w.is at s.paths) (rw w.is at s.rises) in
        record {
          tries = w.more;
          regular = w.shaped;
          sound = u.1;
          high = leaf_high depth w.strings w.suffixes w.more (rw w.is at s.high);
          nodes_fit = (leaf_roomy k w.strings w.suffixes w.more (rw w.is at s.nodes_fit)).1;
          paths = g.1.0;
          rises = g.1.1;
          bytes = w.rest_is;
          is = s.is ∙ ap (found (reaches q) (takes q) above k) w.is ∙ f.0;
          entered = s.entered ∙ ap (nodes_entered (reaches q) above k) w.is ∙ f.1;
        })
        (λ (o : (d : Dimension) × ((kind_of_byte x.byte) ≡ Inner d)).
        let d = number_of o.0 in
        let w = inner_view (head_in x) s.tries o.0 s.regular h o.1 in
        let f = inner_out (reaches q) (takes q) above k w.strings w.more d w.children (rw w.strings_are at y) in
        let u = inner_sound above d w.strings w.children w.more (rw w.is at s.sound) in
        let g = inner_keys k w.strings d w.children w.more (rw w.is at s.paths) (rw w.is at s.rises) in
        record {
          tries = w.more;
          regular = w.shaped;
          sound = u.2;
          high = (inner_high depth d w.strings w.children w.more (rw w.is at s.high)).1;
          nodes_fit = (inner_roomy k w.strings d w.children w.more (rw w.is at s.nodes_fit)).2;
          paths = g.1.0;
          rises = g.1.1;
          bytes = w.rest_is;
          is = s.is ∙ ap (found (reaches q) (takes q) above k) w.is ∙ f.0;
          entered = s.entered ∙ ap (nodes_entered (reaches q) above k) w.is ∙ f.1;
        })
        (kind? (kind_of_byte x.byte))

-- known bytes and strings that have room behind them
short_room : (k a b : List ℕ) (x : Known) → length k ≡ slot_size → Short (join (known_strings x k) (a ∷ b ∷ [])) → has_room x.value x.path a b ≡ true
unfolding join known
short_room k a b x lk h =
    let value : length (take x.value k ++ a) ≡ x.value + length a = omega (arith, length-append (take x.value k) a, length-take-le x.value k (omega (arith, x.value_fits))) in
    let path : length (region k path_at x.path ++ b) ≡ x.path + length b =
    omega (arith, length-append (region k path_at x.path) b, length_region k path_at x.path (omega (arith, x.path_fits))) in
    and_both (le-leb (x.value + length a) value_size (omega (arith, h.0))) (le-leb (x.path + length b) ended_limit (omega (arith, h.1)))

and-true : (a b : Bool) → a ≡ true → a && b ≡ b
and-true a b e = rw e

-- ---- the turn over siblings

module _ {Has : List Key → ℕ → Type 0} {q : Query} (above : Option Dimension) {depth : ℕ} (y : Known) {t₀ t k₀ k : List ℕ} {o₀ o : Output} {m : ℕ}
    (l : Going Has (TriesFound q (above_of above) depth (known_strings y k₀) t) y t₀ t o₀ o k₀ k m) {r : Option Node}
    (is : (f : Forest) → Regular 2 f → t ≡ encode f → option_map head_in r ≡ head_of f) (x : Node) (e : r ≡ Some x)
    (inside : length t ≡ 7 + length x.value.now + length x.path.now + length x.body.now + length x.rest.now) where
  enters_now : enters (reaches q) (above_of above) (known_strings y k) (node_strings x) ≡ enters (reaches q) (above_of above) (known_strings y k₀) (node_strings x)
  enters_now = ap (λ (z : Strings). enters (reaches q) (above_of above) z (node_strings x)) l.finding.rows.kept

  -- the path known there
  now_first : AtNode (join (known_strings y k₀) (node_strings x)) → FirstBytes (region k path_at y.path ++ x.path.now)
  now_first h =
      subst FirstBytes (ap (λ (z : Strings). at 1 (join z (node_strings x))) (sym l.finding.rows.kept) ∙ node_path y.value y.path k x.value.now x.path.now) h.1

  module _ {k₁ : List ℕ} {u : Known} (down : Descended q above y x.value.now x.path.now k k₁ (Some u)) where
    -- the node is entered
    entered_now : AtNode (join (known_strings y k₀) (node_strings x)) → enters (reaches q) (above_of above) (known_strings y k₀) (node_strings x) ≡ true
    entered_now h = sym enters_now ∙ and_right (has_room y.value y.path x.value.now x.path.now) _ (sym (down.is (now_first h)))

    -- what is found below it
    abbrev Lower : (o' : Output) (k' : List ℕ) (n : ℕ) → Type 0
    Lower o' k' n = Walked (BodyFound q (kind_of_byte x.byte) (depth - 1) (known_strings u k₁) x.body.now) u x.body.now o o' k₁ k' n

    siblings_later : {o' : Output} {k' : List ℕ} {n : ℕ} → length k' ≡ slot_size → Lower o' k' n
        → Going Has (Later q (above_of above) depth (known_strings y k₀) (node_strings x) x.rest.now) y t₀ x.rest.now o₀ o' k₀ k' (m + (1 + n))
    siblings_later {k' = k'} long i =
        let below = down.deeper.joins ∙ ap (λ (z : Strings). join z (node_strings x)) l.finding.rows.kept in
        let w = rw l.room at i.searched in
        record {
          few_rows = omega (arith, l.few_rows, i.few_rows);
          few_nodes = omega (arith, l.few_nodes, i.few_nodes);
          room = i.room ∙ l.room;
          same_reference = i.same_reference ∙ l.same_reference;
          long = long;
          finding = finding_on l.finding
              (record {
                rows = record {
                  put = w.rows.put;
                  fit = w.rows.fit;
                  count = w.rows.count;
                  long = w.rows.long;
                  writes = w.rows.writes;
                  front = w.rows.front;
                  kept = known_less y.value y.path u.value u.path k' k₁ (omega (arith, down.deeper.value_is)) (omega (arith, down.deeper.path_is)) w.rows.kept ∙ down.kept;
                  are = λ ks z. absurd z;
                };
                nodes = 1 + w.nodes;
                count = omega (arith, w.count);
                are = λ ks a o. let z = w.are ks o.below (rw below o.has) in (z.0, omega (arith, z.1, o.is));
              })
              (λ ks a h. tries_in is x e (entered_now (tries_node is x e ks a h)) ks a h);
        }

    pub siblings_in : {o' : Output} {k' : List ℕ} {n : ℕ} → length k' ≡ slot_size → Lower o' k' n
        → Going Has (TriesFound q (above_of above) depth (known_strings y k₀) x.rest.now) y t₀ x.rest.now o₀ o' k₀ k' (m + (1 + n))
    siblings_in long i =
        let g = siblings_later long i in
        record { few_rows = g.few_rows; few_nodes = g.few_nodes; room = g.room; same_reference = g.same_reference; long = g.long; finding = finding_less g.finding (λ ks a h. h.found) }

    -- and no other will be
    pub siblings_done : {o' : Output} {k' : List ℕ} {n : ℕ} → length k' ≡ slot_size → Lower o' k' n → OneByte q (above_of above) (known_strings y k₀)
        → Walked Has y t₀ o₀ o' k₀ k' (m + (1 + n))
    siblings_done long i one = going_done (siblings_later long i) (none_later one (node_strings x))

  -- the node is passed: its strings have room, so a search does not enter it
  pub siblings_past : {k₁ : List ℕ} → Descended q above y x.value.now x.path.now k k₁ None → length k₀ ≡ slot_size → length k₁ ≡ slot_size
      → Going Has (TriesFound q (above_of above) depth (known_strings y k₀) x.rest.now) y t₀ x.rest.now o₀ o k₀ k₁ m
  siblings_past down buffer long =
      record {
        few_rows = omega (arith, l.few_rows);
        few_nodes = omega (arith, l.few_nodes);
        room = l.room;
        same_reference = l.same_reference;
        long = long;
        finding = finding_on l.finding (searched_none {Has = λ ks a. (ks ≡ []) × (a ≡ 0)} down.kept (λ ks a h. h))
            (λ ks a h. record {
              first = [];
              second = ks;
              before = 0;
              behind = a;
              one = (refl, refl);
              other = tries_out is x e (out ks a h) ks a h;
              is = refl;
              sum = omega arith;
            });
      }
    where
      out : (ks : List Key) (a : ℕ) → TriesFound q (above_of above) depth (known_strings y k₀) t ks a → enters (reaches q) (above_of above) (known_strings y k₀) (node_strings x) ≡ false
      out ks a h =
          let node = tries_node is x e ks a h in
          let room = short_room k₀ x.value.now x.path.now y buffer node.0 in
          sym enters_now ∙ sym (and-true (has_room y.value y.path x.value.now x.path.now) _ room) ∙ sym (down.is (now_first node))

-- ---- a body

-- of a leaf: its suffixes
pub body_suffixes : {q : Query} {kind : Kind} (depth : ℕ) {x : Known} {k₀ : Strings} {t k k' : List ℕ} {o o' : Output} {d : ℕ} → kind ≡ Leaf
    → Walked (SuffixesFound q k₀ t) x t o o' k k' d → Walked (BodyFound q kind depth k₀ t) x t o o' k k' d
body_suffixes depth z i = rw z i

-- of an inner node: its children
pub body_tries : {q : Query} {kind : Kind} {dimension : Dimension} {depth : ℕ} {x : Known} {k₀ : Strings} {t k k' : List ℕ} {o o' : Output} {d : ℕ} → kind ≡ Inner dimension
    → Walked (TriesFound q (below (number_of dimension)) depth k₀ t) x t o o' k k' d → Walked (BodyFound q kind depth k₀ t) x t o o' k k' d
body_tries z i = rw z i

-- tries of which no node is left to enter
pub tries_low : {q : Query} {above : Above} {depth : ℕ} {x : Known} {k₀ : Strings} {t k : List ℕ} {o : Output} → depth ≡ 0
    → Walked (TriesFound q above depth k₀ t) x t o o k k 0
tries_low {q} {above} {k₀ = k₀} d =
    record {
      few_rows = omega arith;
      few_nodes = omega arith;
      room = refl;
      same_reference = refl;
      searched = searched_none refl
          (λ ks e w. let f = found_low (reaches q) (takes q) above k₀ w.tries (omega (arith, w.high)) in
          (w.is ∙ f.0, w.entered ∙ f.1));
    }
