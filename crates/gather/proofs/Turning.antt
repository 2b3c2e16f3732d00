-- The turns of the two loops of a walk: over the suffixes of a leaf, and over siblings. Assumes nothing.
use mathlib.Core.Path.{◌≡◌, refl, sym, ap, ap₂, ◌∙◌}
use mathlib.Core.Bool.{Bool, true, false, cond}
use Prim.Native.Nat.{ℕ, ◌+◌, ◌*◌, ◌≤◌}
use mathlib.Core.List.{List, [], ◌∷◌, ◌++◌, map}
use native.Mathlib.Omega.{arith}
use lib.ListN.{length, take}
use lib.Dec.{eqb, leb, ltb}
use lib.Seq.{take-take}
use borrow.Author.Tests.{eq-eqb, eqb-true, le-leb, leb-true}
use Rattle.std.specs.Prelude.{Option, Some, None}
use Rattle.std.specs.Option.{option_map}
use Rattle.buffer.specs.Lists.{All, pick}
use Rattle.buffer.specs.Splice.{splice}
use Rattle.buffer.proofs.Tests.{and_left, and_right, and_both}
use Rattle.rows.specs.Sizes.{node_limit}
use Rattle.trie_theory.specs.Forest.{Strings, Key, Forest, join}
use Rattle.trie_theory.specs.Encode.{Regular, encode}
use Rattle.entries.specs.Slots.{slot_size}
use Rattle.trie_read.specs.Shape.{Fixed}
use Rattle.trie_read.specs.Kinds.{byte_of_kind, kind_of_byte}
use Rattle.trie_read.specs.Heads.{head_of, head_in}
use Rattle.trie_read.specs.Suffixes.{suffixes_bytes, tail_of, tail_in}
use Rattle.trie_read.specs.declared.head.Node.{Node}
use Rattle.trie_read.specs.declared.suffix.Suffix.{Suffix}
use Rattle.trie_read.specs.declared.kind.Dimension.{Dimension}
use Rattle.trie_read.specs.declared.kind.Kind.{Kind}
use Rattle.trie_read.specs.declared.kind.Kind.TheVariants.{Leaf, Inner}
use Rattle.gather.specs.KeySlots.{has_slot, key_slot, suffix_key}
use Rattle.gather.specs.Walks.{known_strings}
use Rattle.gather.specs.Visits.{node_size, node_of, Visit, visit, made, row_of, SuffixVisits, TrieVisits, Walked, Descended}
use Rattle.gather.specs.declared.known.Below.{Below}
use Rattle.gather.specs.declared.output.Output.{Output}
use Rattle.gather.specs.Outputs.{RowPut}
use Rattle.gather.proofs.Filling.{length_slot, slot_kept, known_less}
use Rattle.gather.proofs.Putting.{GoingBy, put_in, put_as, put_none, put_one, going_from, going_end, going_on}
use Rattle.gather.proofs.Splitting.{pick_one, pick_not, long_known, node_strings, visits_end, visits_split, below_end, below_split, BodyVisits, long_visits}

-- where more nodes are the same, fewer are
pub fewer : (n : ℕ) (w w' : List ℕ) → take (node_size * (n + 1)) w' ≡ take (node_size * (n + 1)) w → take (node_size * n) w' ≡ take (node_size * n) w
fewer n w w' e =
    let h : node_size * n ≤ node_size * (n + 1) = omega arith in
    sym (take-take (node_size * n) (node_size * (n + 1)) w' h) ∙ ap (take (node_size * n)) e ∙ take-take (node_size * n) (node_size * (n + 1)) w h

made_visit : (n : ℕ) (way : List ℕ) (x : Key) → has_slot x ≡ true → length way ≡ node_size * n → n ≤ node_limit → made (visit n way x) ≡ true
made_visit n way x h l m = and_both h (and_both (eq-eqb (length way) (node_size * n) l) (le-leb n node_limit m))

abbrev pub Row : Type 0
Row = ℕ → List ℕ → List ℕ → List ℕ

module _ (row : Row) (width : ℕ) (even : (n : ℕ) (way k : List ℕ) → length k ≡ slot_size → length way ≡ node_size * n → n ≤ node_limit → length (row n way k) ≡ width) where
  -- the row of a visit that a walk makes
  pub length_made : (x : Visit) → made x ≡ true → length (row_of row x) ≡ width
  length_made x h =
      let a = has_slot x.key in
      let b = eqb (length x.way) (node_size * x.nodes) in
      let c = leb x.nodes node_limit in
      let t = and_right a _ h in
      even x.nodes x.way (key_slot x.key) (length_slot x.key (and_left a _ h)) (eqb-true (length x.way) (node_size * x.nodes) (and_left b c t)) (leb-true x.nodes node_limit (and_right b c t))

-- what a loop of a walk has put so far, where those that `Left` tells are left
pub record Going (row : Row) (Has Left : List Visit → Type 0) (x : Below) (t₀ t : List ℕ) (o₀ o : Output) (k₀ k : List ℕ) : Type 0 where
  pub few : o.rows + length t ≤ o₀.rows + length t₀
  pub room : o.room ≡ o₀.room
  pub same_reference : o.bytes.ghost_name ≡ o₀.bytes.ghost_name
  pub by : GoingBy made (row_of row) Has Left x.known.value x.known.path 0 o₀.room o₀.rows o₀.bytes.now k₀ o.bytes.now k o.rows

module _ {row : Row} {Has : List Visit → Type 0} {x : Below} {t₀ : List ℕ} {o₀ : Output} {k₀ : List ℕ} where
  pub going_start : Going row Has Has x t₀ t₀ o₀ o₀ k₀ k₀
  going_start = record { few = omega arith; room = refl; same_reference = refl; by = going_from (λ ks h. h) }

  pub nothing_walked : ((vs : List Visit) → Has vs → vs ≡ []) → Walked row Has x t₀ o₀ o₀ k₀ k₀
  nothing_walked h = record { few = omega arith; room = refl; same_reference = refl; put = put_none refl h }

  pub going_done : {Left : List Visit → Type 0} {t : List ℕ} {o : Output} {k : List ℕ} → Going row Has Left x t₀ t o₀ o k₀ k
      → ((vs : List Visit) → Left vs → vs ≡ []) → Walked row Has x t₀ o₀ o k₀ k
  going_done l h = record { few = omega (arith, l.few); room = l.room; same_reference = l.same_reference; put = going_end l.by h }

-- ---- suffixes

module _ {row : Row} {Has : List Visit → Type 0} {x : Below} {way t₀ t k₀ k : List ℕ} {o₀ o : Output}
    (l : Going row Has (SuffixVisits x.nodes way (known_strings x.known k₀) t) x t₀ t o₀ o k₀ k) {r : Option Suffix}
    (is : (us : List Key) → All Fixed us → t ≡ suffixes_bytes us → option_map tail_in r ≡ tail_of us) where
  pub suffixes_done : r ≡ None → Walked row Has x t₀ o₀ o k₀ k
  suffixes_done h = going_done l (visits_end is h)

  module _ (y : Suffix) (e : r ≡ Some y) (long : length t ≡ 22 + length y.value.now + length y.path.now + length y.rest.now) where
    abbrev key : Key
    key = suffix_key (known_strings x.known k) y.value.now y.path.now y.reference.now

    now_key : key ≡ suffix_key (known_strings x.known k₀) y.value.now y.path.now y.reference.now
    now_key = ap (λ (z : Strings). suffix_key z y.value.now y.path.now y.reference.now) l.by.so.kept

    pub suffixes_put : {o' : Output} {k' : List ℕ} {b : Bool} (width : ℕ) (even : (n : ℕ) (w z : List ℕ) → length z ≡ slot_size → length w ≡ node_size * n → n ≤ node_limit → length (row n w z) ≡ width)
        → length k ≡ slot_size → length way ≡ node_size * x.nodes → o₀.room * width ≤ length o₀.bytes.now → b ≡ has_slot key → k' ≡ cond b (key_slot key) k → b ≡ true
        → RowPut width (row x.nodes way k') o o' → Going row Has (SuffixVisits x.nodes way (known_strings x.known k₀) y.rest.now) x t₀ y.rest.now o₀ o' k₀ k'
    suffixes_put {o'} {k'} width even buffer ways fits told after is_true w =
        let has : has_slot key ≡ true = sym told ∙ is_true in
        let f : k' ≡ key_slot key = rw is_true at after in
        let v = visit x.nodes way key in
        let kept : known_strings x.known k' ≡ known_strings x.known k = ap (known_strings x.known) f ∙ slot_kept k y.value.now y.path.now y.reference.now x.known.value x.known.path buffer x.known.value_fits x.known.path_fits has in
        let wrote : o'.bytes.now ≡ cond (ltb o.rows o₀.room) (splice o.bytes.now (0 + o.rows * width) (row_of row v)) o.bytes.now =
        let z : 0 + o.rows * width ≡ o.rows * width = omega arith in
        w.bytes ∙ rw (z, l.room, f) refl in
        let one = put_one (row_of row) width (length_made row width even) 0 o₀.room o.rows o.bytes.now o'.bytes.now v (made_visit x.nodes way key has ways x.nodes_fit) (omega (arith, l.by.so.long)) wrote kept in
        record {
          few = omega (arith, l.few, w.rows);
          room = w.room ∙ l.room;
          same_reference = w.same_reference ∙ l.same_reference;
          by = rw w.rows (going_on l.by
              (put_as one (λ vs q. one.are vs (q ∙ ap (λ (z : Key). map (visit x.nodes way) (pick has_slot (z ∷ []))) (sym now_key) ∙ ap (map (visit x.nodes way)) (pick_one has_slot key has))))
              (visits_split is y e));
        }

    pub suffixes_pass : {k' : List ℕ} {b : Bool} → b ≡ has_slot key → k' ≡ cond b (key_slot key) k → b ≡ false
        → Going row Has (SuffixVisits x.nodes way (known_strings x.known k₀) y.rest.now) x t₀ y.rest.now o₀ o k₀ k'
    suffixes_pass {k'} told after is_false =
        let has : has_slot key ≡ false = sym told ∙ is_false in
        let f : k' ≡ k = rw is_false at after in
        record {
          few = omega (arith, l.few);
          room = l.room;
          same_reference = l.same_reference;
          by = going_on l.by
              (put_none (ap (known_strings x.known) f) (λ vs q. q ∙ ap (λ (z : Key). map (visit x.nodes way) (pick has_slot (z ∷ []))) (sym now_key) ∙ ap (map (visit x.nodes way)) (pick_not has_slot key has)))
              (visits_split is y e);
        }

-- ---- siblings

-- the same, told of other visits
told_by : {row : Row} {A B : List Visit → Type 0} {x : Below} {t : List ℕ} {o o' : Output} {k k' : List ℕ} → ((vs : List Visit) → B vs → A vs) → Walked row A x t o o' k k' → Walked row B x t o o' k k'
told_by f w = record { few = w.few; room = w.room; same_reference = w.same_reference; put = put_as w.put (λ vs b. w.put.are vs (f vs b)) }

pub leaf_walked : {row : Row} (kind : Kind) {x : Below} {n : ℕ} {way : List ℕ} {s : Strings} {t : List ℕ} {o o' : Output} {k k' : List ℕ} → kind ≡ Leaf
    → Walked row (SuffixVisits n way s t) x t o o' k k' → Walked row (BodyVisits kind n way s t) x t o o' k k'
leaf_walked kind {n = n} {way} {s} {t} e w = told_by (λ vs b. rw e at b) w

pub inner_walked : {row : Row} (kind : Kind) (d : Dimension) {x : Below} {n : ℕ} {way : List ℕ} {s : Strings} {t : List ℕ} {o o' : Output} {k k' : List ℕ} → kind ≡ Inner d
    → Walked row (TrieVisits n way s t) x t o o' k k' → Walked row (BodyVisits kind n way s t) x t o o' k k'
inner_walked kind d {n = n} {way} {s} {t} e w = told_by (λ vs b. rw e at b) w

module _ {row : Row} {Has : List Visit → Type 0} {x : Below} {way t₀ t k₀ k : List ℕ} {o₀ o : Output}
    (l : Going row Has (TrieVisits x.nodes way (known_strings x.known k₀) t) x t₀ t o₀ o k₀ k) {r : Option Node}
    (is : (f : Forest) → Regular 2 f → t ≡ encode f → option_map head_in r ≡ head_of f) where
  pub siblings_done : r ≡ None → Walked row Has x t₀ o₀ o k₀ k
  siblings_done h = going_done l (below_end is h)

  module _ (y : Node) (e : r ≡ Some y) (long : length t ≡ 7 + length y.value.now + length y.path.now + length y.body.now + length y.rest.now) {w k₁ w₁ : List ℕ} where
    -- the node is entered, and what is below it is walked
    pub siblings_in : {z : Below} {o' : Output} {k' : List ℕ} → Descended x y.value.now y.path.now (byte_of_kind (kind_of_byte y.byte)) k w k₁ w₁ (Some z) → take (node_size * x.nodes) w ≡ way
        → Walked row (BodyVisits (kind_of_byte y.byte) z.nodes (take (node_size * z.nodes) w₁) (known_strings z.known k₁) y.body.now) z y.body.now o o' k₁ k'
        → Going row Has (TrieVisits x.nodes way (known_strings x.known k₀) y.rest.now) x t₀ y.rest.now o₀ o' k₀ k'
    siblings_in {z} {o'} {k'} down ways i =
        let n = down.is in
        let below : known_strings z.known k₁ ≡ join (known_strings x.known k₀) (node_strings y) = n.deeper.joins ∙ ap (λ (s : Strings). join s (node_strings y)) l.by.so.kept in
        let line : take (node_size * z.nodes) w₁ ≡ way ++ node_of (join (known_strings x.known k₀) (node_strings y)) (byte_of_kind (kind_of_byte y.byte)) =
        n.way ∙ ap₂ (λ (a : List ℕ) (s : Strings). a ++ node_of s (byte_of_kind (kind_of_byte y.byte))) ways below in
        let put = rw (line, below, n.one_more) at i.put in
        let kept : known_strings x.known k' ≡ known_strings x.known k = known_less x.known.value x.known.path z.known.value z.known.path k' k₁ (omega (arith, n.deeper.value_is)) (omega (arith, n.deeper.path_is)) i.put.kept ∙ down.kept in
        record {
          few = omega (arith, l.few, i.few);
          room = i.room ∙ l.room;
          same_reference = i.same_reference ∙ l.same_reference;
          by = going_on l.by (rw l.room at (put_in put kept put.are)) (below_split is y e);
        }

    -- its strings have no room, so no key below it has a slot
    pub siblings_past : length k₀ ≡ slot_size → Descended x y.value.now y.path.now (byte_of_kind (kind_of_byte y.byte)) k w k₁ w₁ None
        → Going row Has (TrieVisits x.nodes way (known_strings x.known k₀) y.rest.now) x t₀ y.rest.now o₀ o k₀ k₁
    siblings_past buffer down =
        record {
          few = omega (arith, l.few);
          room = l.room;
          same_reference = l.same_reference;
          by = going_on l.by
              (put_none down.kept (long_visits (kind_of_byte y.byte) (x.nodes + 1) (way ++ node_of (join (known_strings x.known k₀) (node_strings y)) (byte_of_kind (kind_of_byte y.byte))) (join (known_strings x.known k₀) (node_strings y)) y.body.now (long_known k₀ y.value.now y.path.now x.known.value x.known.path buffer x.known.value_fits x.known.path_fits down.is)))
              (below_split is y e);
        }
