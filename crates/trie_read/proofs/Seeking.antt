-- Passing along siblings to where a key belongs: an addition changes only what is not passed yet. Stated once for leaves and inner nodes,
-- of the strings of the first of them. Assumes nothing.
use mathlib.Core.Path.{◌≡◌, refl, sym, ap, ◌∙◌}
use mathlib.Core.Bool.{true, false}
use mathlib.Core.Logic.{⊎_elim}
use Prim.Native.Nat.{ℕ, suc, ◌+◌, ◌-◌, ◌≤◌, ◌<◌}
use mathlib.Core.List.{List, [], ◌∷◌, ◌++◌, append_assoc, map}
use native.Mathlib.Omega.{arith}
use lib.ListN.{length, drop, length-append}
use lib.Dec.{ltb}
use lib.Seq.{drop_at, take_at, drop-drop}
use borrow.Author.Tests.{eq-eqb, lt-ltb, le-ltb, ltb-true}
use Rattle.buffer.specs.Lists.{all}
use Rattle.buffer.proofs.Tests.{and_left, and_right}
use Rattle.trie_theory.specs.Forest.{Strings, Key, Forest, none, leaf, inner, tops}
use Rattle.buffer.specs.Lists.{flat}
use Rattle.trie_theory.specs.Strings.{at}
use Rattle.trie_theory.specs.Dimensions.{Above, branching}
use Rattle.trie_theory.specs.SmallTrie.{meets, precedes, new_leaf, outcome, added}
use Rattle.trie_theory.specs.Sound.{Ascending}
use Rattle.trie_theory.specs.Size.{height}
use Rattle.trie_theory.specs.Encode.{Regular, encode, node_bytes, suffix_bytes}
use Rattle.trie_theory.proofs.Branching.{meets_apart}
use Rattle.std.specs.Prelude.{Option, Some, None}
use Rattle.trie_read.specs.Shape.{above_of, part}
use Rattle.trie_read.specs.Kinds.{kind_of_byte, number_of}
use Rattle.trie_read.specs.Heads.{Head, head_of, head_in, Stands}
use Rattle.trie_read.specs.declared.head.Node.{Node}
use Rattle.trie_read.specs.Places.{top, Passed, Here, head_between}
use Rattle.trie_read.specs.declared.kind.Dimension.{Dimension}
use Rattle.trie_read.specs.declared.kind.Kind.TheVariants.{Leaf, Inner}
use Rattle.trie_read.proofs.Node.{length_own, leaf_view, inner_view, head_end, kind?}

-- ---- the branching byte against those of tries

later_too : (b c : ℕ) (h : Strings → ℕ) (us : List Strings) → b < c → all (λ t. ltb c (h t)) us ≡ true → all (λ t. ltb b (h t)) us ≡ true
later_too b c h [] l a = refl
later_too b c h (u ∷ us) l a =
    let q : c < h u = ltb-true c (h u) (and_left (ltb c (h u)) (all (λ t. ltb c (h t)) us) a) in
    rw (lt-ltb b (h u) (omega arith)) (later_too b c h us l (and_right (ltb c (h u)) (all (λ t. ltb c (h t)) us) a))

meets_byte : (above : Above) (s k : Strings) → branching above s ≡ branching above k → meets above s k ≡ true
unfolding meets
meets_byte above s k e = eq-eqb (branching above s) (branching above k) e

module _ (above : Above) (k s : Strings) where
  pub precedes_yes : (us : List Strings) → branching above k < branching above s → all (λ t. ltb (branching above s) (branching above t)) us ≡ true
      → all (λ t. ltb (branching above k) (branching above t)) (s ∷ us) ≡ true
  precedes_yes us l a = rw (lt-ltb (branching above k) (branching above s) l) (later_too (branching above k) (branching above s) (branching above) us l a)

  pub precedes_no : (us : List Strings) → branching above s ≤ branching above k → all (λ t. ltb (branching above k) (branching above t)) (s ∷ us) ≡ false
  precedes_no us l = rw (le-ltb (branching above k) (branching above s) l)

  pub apart : (branching above s ≡ branching above k → ⊥) → meets above s k ≡ false
  apart n = meets_apart above s k n

-- ---- one sibling

-- an addition goes on to the later siblings, or stays before them all
module _ (above : Above) (s : Strings) (more : Forest) (x : Key) where
  module _ (ts : List Key) where
    leaf_later : branching above s < branching above x.strings → added above (leaf s ts more) x ≡ leaf s ts (added above more x)
    unfolding added outcome precedes tops
    leaf_later l = rw (apart above x.strings s (λ e. omega arith), precedes_no above x.strings s (tops more) (omega arith))

    leaf_before : branching above x.strings < branching above s → precedes above s more ≡ true → added above (leaf s ts more) x ≡ new_leaf x (leaf s ts more)
    unfolding added outcome precedes tops
    leaf_before l a = rw (apart above x.strings s (λ e. omega arith), precedes_yes above x.strings s (tops more) l a)

  module _ (d : ℕ) (children : Forest) where
    inner_later : branching above s < branching above x.strings → added above (inner d s children more) x ≡ inner d s children (added above more x)
    unfolding added outcome precedes tops
    inner_later l = rw (apart above x.strings s (λ e. omega arith), precedes_no above x.strings s (tops more) (omega arith))

    inner_before : branching above x.strings < branching above s → precedes above s more ≡ true → added above (inner d s children more) x ≡ new_leaf x (inner d s children more)
    unfolding added outcome precedes tops
    inner_before l a = rw (apart above x.strings s (λ e. omega arith), precedes_yes above x.strings s (tops more) l a)

-- the first of tries with the head h, leaf or inner node: its own bytes, and what an addition does there
pub record Sibling (above : Above) (g : Forest) (h : Head) : Type 0 where
  pub strings : Strings
  pub more : Forest
  pub own : List ℕ
  pub bytes : encode g ≡ own ++ encode more
  pub long : length own ≡ 7 + length h.value + length h.path + length h.body
  pub rest : h.rest ≡ encode more
  pub known : h.value ∷ h.path ∷ [] ≡ strings
  pub first : top g ≡ strings
  pub shaped : Regular 2 more
  pub ascends : Ascending above more
  pub lower : height more ≤ height g
  pub later : (x : Key) → branching above strings < branching above x.strings → encode (added above g x) ≡ own ++ encode (added above more x)
  pub before : (x : Key) → branching above x.strings < branching above strings → added above g x ≡ new_leaf x g

sibling_leaf : (above : Above) (s : Strings) (ts : List Key) (more : Forest) (h : Head) → h.value ≡ at 0 s → h.path ≡ at 1 s → h.value ∷ h.path ∷ [] ≡ s
    → h.body ≡ flat (map suffix_bytes ts) → h.rest ≡ encode more → length s ≡ 2 → Regular 2 more → Ascending above (leaf s ts more)
    → Sibling above (leaf s ts more) h
unfolding encode Ascending top height
sibling_leaf above s ts more h a b k c d w r o =
    record {
      strings = s;
      more = more;
      own = node_bytes 0 s (flat (map suffix_bytes ts));
      bytes = refl;
      long = rw (a, b, c) (length_own 0 s (flat (map suffix_bytes ts)) w);
      rest = d;
      known = k;
      first = refl;
      shaped = r;
      ascends = o.1;
      lower = omega arith;
      later = λ x l. ap encode (leaf_later above s more x ts l);
      before = λ x l. leaf_before above s more x ts l o.0;
    }

sibling_inner : (above : Above) (n : ℕ) (s : Strings) (children more : Forest) (h : Head) → h.value ≡ at 0 s → h.path ≡ at 1 s → h.value ∷ h.path ∷ [] ≡ s
    → h.body ≡ encode children → h.rest ≡ encode more → length s ≡ 2 → Regular 2 more → Ascending above (inner n s children more)
    → Sibling above (inner n s children more) h
unfolding encode Ascending top height
sibling_inner above n s children more h a b k c d w r o =
    record {
      strings = s;
      more = more;
      own = node_bytes (suc n) s (encode children);
      bytes = refl;
      long = rw (a, b, c) (length_own (suc n) s (encode children) w);
      rest = d;
      known = k;
      first = refl;
      shaped = r;
      ascends = o.2;
      lower = omega arith;
      later = λ x l. ap encode (inner_later above s more x n children l);
      before = λ x l. inner_before above s more x n children l o.0;
    }

pub sibling : (above : Above) (g : Forest) (h : Head) → Regular 2 g → Ascending above g → Some h ≡ head_of g → Sibling above g h
sibling above g h r a q =
    ⊎_elim
    (λ (z : h.kind ≡ Leaf). let v = leaf_view h g r q z in
    rw v.is (sibling_leaf above v.strings v.suffixes v.more h v.value_is v.path_is v.strings_are v.body_is v.rest_is v.wide v.shaped (rw v.is at a)))
    (λ (z : (d : Dimension) × (h.kind ≡ Inner d)). let v = inner_view h g z.0 r q z.1 in
    rw v.is (sibling_inner above (number_of z.0) v.strings v.children v.more h v.value_is v.path_is v.strings_are v.body_is v.rest_is v.wide v.shaped (rw v.is at a)))
    (kind? h.kind)

added_none : (above : Above) (g : Forest) (x : Key) → g ≡ none → added above g x ≡ new_leaf x g
unfolding added
added_none above g x z = rw z

-- what u says of a list that ends in it
module _ (t u : List ℕ) (m : ℕ) (e : u ≡ drop m t) where
  rest_in : (a b : List ℕ) (i : ℕ) → u ≡ a ++ b → m + length a ≡ i → drop i t ≡ b
  rest_in a b i q h = rw (← h, ← drop-drop (length a) m t, ← e, q) (drop_at a b (length a) refl)

  part_in : (a b c : List ℕ) (i j : ℕ) → u ≡ a ++ (b ++ c) → m + length a ≡ i → i + length b ≡ j → part i j t ≡ b
  part_in a b c i j q h k =
      let n : length b ≡ j - i = omega arith in
      rw (rest_in a (b ++ c) i q h) (take_at b c (j - i) n)

-- a node that stands in the end of t has these places there
module _ (t u : List ℕ) (n : Node) (l : length u ≤ length t) (e : u ≡ drop (length t - length u) t) (s : Stands u n) where
  abbrev at_u : ℕ
  at_u = length t - length u

  lead_value : u ≡ (s.lead ++ n.value.now) ++ (n.path.now ++ (n.body.now ++ n.rest.now))
  lead_value = s.is ∙ sym (append_assoc s.lead n.value.now (n.path.now ++ (n.body.now ++ n.rest.now)))

  lead_path : u ≡ ((s.lead ++ n.value.now) ++ n.path.now) ++ (n.body.now ++ n.rest.now)
  lead_path = lead_value ∙ sym (append_assoc (s.lead ++ n.value.now) n.path.now (n.body.now ++ n.rest.now))

  lead_body : u ≡ (((s.lead ++ n.value.now) ++ n.path.now) ++ n.body.now) ++ n.rest.now
  lead_body = lead_path ∙ sym (append_assoc ((s.lead ++ n.value.now) ++ n.path.now) n.body.now n.rest.now)

  value_long : length (s.lead ++ n.value.now) ≡ 7 + length n.value.now
  value_long = omega (arith, length-append s.lead n.value.now, s.lead_long)

  path_long : length ((s.lead ++ n.value.now) ++ n.path.now) ≡ 7 + length n.value.now + length n.path.now
  path_long = omega (arith, length-append (s.lead ++ n.value.now) n.path.now, value_long)

  body_long : length (((s.lead ++ n.value.now) ++ n.path.now) ++ n.body.now) ≡ 7 + length n.value.now + length n.path.now + length n.body.now
  body_long = omega (arith, length-append ((s.lead ++ n.value.now) ++ n.path.now) n.body.now, path_long)

  pub between : head_in n
      ≡ head_between t at_u (kind_of_byte n.byte) (at_u + 7 + length n.value.now) (at_u + 7 + length n.value.now + length n.path.now)
      (at_u + 7 + length n.value.now + length n.path.now + length n.body.now)
  between =
      let v : part (at_u + 7) (at_u + 7 + length n.value.now) t ≡ n.value.now =
      part_in t u at_u e s.lead n.value.now (n.path.now ++ (n.body.now ++ n.rest.now)) _ _ s.is (omega (arith, s.lead_long)) refl in
      let p : part (at_u + 7 + length n.value.now) (at_u + 7 + length n.value.now + length n.path.now) t ≡ n.path.now =
      part_in t u at_u e (s.lead ++ n.value.now) n.path.now (n.body.now ++ n.rest.now) _ _ lead_value (omega (arith, value_long)) refl in
      let b : part (at_u + 7 + length n.value.now + length n.path.now) (at_u + 7 + length n.value.now + length n.path.now + length n.body.now) t ≡ n.body.now =
      part_in t u at_u e ((s.lead ++ n.value.now) ++ n.path.now) n.body.now n.rest.now _ _ lead_path (omega (arith, path_long)) refl in
      let r : drop (at_u + 7 + length n.value.now + length n.path.now + length n.body.now) t ≡ n.rest.now =
      rest_in t u at_u e (((s.lead ++ n.value.now) ++ n.path.now) ++ n.body.now) n.rest.now _ lead_body (omega (arith, body_long)) in
      sym (rw (v, p, b, r) refl)

  pub rest_at : n.rest.now ≡ drop (length t - length n.rest.now) t
  rest_at = sym (rest_in t u at_u e (((s.lead ++ n.value.now) ++ n.path.now) ++ n.body.now) n.rest.now _ lead_body (omega (arith, body_long, s.long)))

-- ---- the pass

-- u are the bytes of what is not passed yet
pub record Seek (t : List ℕ) (above : Option Dimension) (k : Strings) (f : Forest) (at : ℕ) (u : List ℕ) : Type 0 where
  pub passed : Passed t above k f at (added (above_of above))
  pub left : u ≡ encode passed.over

pub seek_start : (t : List ℕ) (above : Option Dimension) (k : Strings) (f : Forest) → Regular 2 f → Ascending (above_of above) f → t ≡ encode f → Seek t above k f 0 t
seek_start t above k f h a e =
    record { passed = record { front = []; over = f; bytes = e; here = refl; shaped = h; ascends = a; lower = omega arith; added = λ x q. refl }; left = e }

module _ {t u : List ℕ} {above : Option Dimension} {at : ℕ} {k : Strings} {f : Forest} (l : Seek t above k f at u) where
  abbrev p : Passed t above k f at (added (above_of above))
  p = l.passed

  -- the place is the gap before what is left
  at_gap : (stop : ℕ) → stop ≡ at → ((x : Key) → x.strings ≡ k → added (above_of above) p.over x ≡ new_leaf x p.over) → Passed t above k f stop (λ g x. new_leaf x g)
  at_gap stop m h =
      record {
        front = p.front;
        over = p.over;
        bytes = p.bytes;
        here = m ∙ p.here;
        shaped = p.shaped;
        ascends = p.ascends;
        lower = p.lower;
        added = λ x q. p.added x q ∙ ap (λ (g : Forest). p.front ++ encode g) (h x q);
      }

  -- no sibling is left: the gap is at the end
  pub seek_end : (stop : ℕ) → stop ≡ at → None ≡ head_of p.over → Passed t above k f stop (λ g x. new_leaf x g)
  seek_end stop m e =
      let z : p.over ≡ none = head_end p.over e in
      at_gap stop m (λ x q. added_none (above_of above) p.over x z)

  module _ (h : Head) (e : Some h ≡ head_of p.over) where
    here : Sibling (above_of above) p.over h
    here = sibling (above_of above) p.over h p.shaped p.ascends e

    abbrev node_strings : Strings
    node_strings = h.value ∷ h.path ∷ []

    -- it is the node with the key's byte
    pub seek_found : branching (above_of above) node_strings ≡ branching (above_of above) k → (path start next : ℕ)
        → h ≡ head_between t at h.kind path start next → Here t above k f at h.kind path start next
    seek_found b path start next q =
        record {
          passed = p;
          told = ap (λ (x : Head). Some x) (sym q) ∙ e;
          leads = rw here.first (meets_byte (above_of above) here.strings k (ap (branching (above_of above)) (sym here.known) ∙ b));
        }

    -- its byte is greater: the gap is before it
    pub seek_gap : branching (above_of above) k < branching (above_of above) node_strings → Passed t above k f at (λ g x. new_leaf x g)
    seek_gap b = at_gap at refl (λ x q. here.before x (rw (q, ← here.known) b))

    -- its byte is less: on to the next
    pub seek_past : (next : ℕ) → next ≡ at + (7 + length h.value + length h.path + length h.body) → branching (above_of above) node_strings < branching (above_of above) k
        → Seek t above k f next h.rest
    seek_past next m b =
        record {
          passed = record {
            front = p.front ++ here.own;
            over = here.more;
            bytes = p.bytes ∙ ap (λ (w : List ℕ). p.front ++ w) here.bytes ∙ sym (append_assoc p.front here.own (encode here.more));
            here = omega (arith, p.here, here.long, length-append p.front here.own);
            shaped = here.shaped;
            ascends = here.ascends;
            lower = omega (arith, p.lower, here.lower);
            added = λ x q.
                p.added x q
                ∙ ap (λ (w : List ℕ). p.front ++ w) (here.later x (rw (q, ← here.known) b))
                ∙ sym (append_assoc p.front here.own (encode (added (above_of above) here.more x)));
          };
          left = here.rest;
        }
