-- Each return of the addition: what a callee has made of a body, of a node, of the siblings. Assumes nothing.
use mathlib.Core.Path.{◌≡◌, refl, sym, ap, ◌∙◌}
use mathlib.Core.Bool.{true, false}
use Prim.Native.Nat.{ℕ, suc, ◌+◌, ◌-◌, ◌≤◌}
use mathlib.Core.List.{List, [], ◌∷◌, ◌++◌}
use native.Mathlib.Omega.{arith}
use lib.ListN.{length, drop, length-append}
use Rattle.buffer.specs.Splice.{splice, region}
use Rattle.buffer.specs.Numbers.{bytes_of}
use Rattle.trie_theory.specs.Forest.{Strings, Key, Forest, none, leaf, inner}
use Rattle.trie_theory.specs.Strings.{at, all_begin, strip, remains}
use Rattle.trie_theory.specs.SmallTrie.{new_leaf, added}
use Rattle.trie_theory.specs.Sound.{Ascending}
use Rattle.trie_theory.specs.Size.{height}
use Rattle.trie_theory.specs.Encode.{Regular, encode, node_bytes}
use Rattle.std.specs.Prelude.{Option, Some}
use Rattle.trie_read.specs.Heads.{front, body_of}
use Rattle.trie_read.specs.Places.{top, Passed, Here}
use Rattle.trie_read.specs.Shape.{part, key_of, above_of}
use Rattle.trie_read.specs.Kinds.{number_of, kind_of_byte, byte_of_kind}
use Rattle.trie_read.specs.declared.kind.Dimension.{Dimension}
use Rattle.trie_read.specs.declared.kind.Kind.TheVariants.{Inner}
use Rattle.trie_read.specs.declared.node_place.NodePlace.{NodePlace}
use Rattle.trie_read.proofs.KindBytes.{byte_back, inner_number}
use Rattle.trie_add.specs.Replaced.{Replaced, split_bytes}
use Rattle.trie_add.specs.Added.{Added, AddedAt, Grown, PlacesOf, single, siblings, kind_of, grown_body}
use Rattle.trie_add.proofs.Adding.{stretch, widened, body_grown}
use Rattle.trie_add.proofs.First.{single_bytes, single_added, single_agrees, single_differs, new_leaf_before, places_of, single_length, stands}

-- ---- below an inner node

pub inner_grown : (s s₁ s₂ : List ℕ) (node : ℕ) (dimension : Dimension) (body next used depth r : ℕ) (y : Key) (f : Forest) (above : Option Dimension)
    → Regular 2 f → Ascending (above_of above) f → height f ≤ depth → Inner dimension ≡ kind_of_byte (kind_of f) → (f ≡ none → ⊥)
    → region s node (body - node) ≡ front (kind_of f) (top f) (next - body) → region s body (next - body) ≡ body_of f
    → node ≤ body → body ≤ next → next ≤ used → used + r ≤ length s
    → Added s body next used (Some dimension) (depth - 1) y s₁ r → s₂ ≡ splice s₁ (node + 3) (bytes_of 4 (next - body + r))
    → Replaced s node next used (node_bytes (kind_of f) (top f) (grown_body f y)) s₂ r
unfolding Regular Ascending height kind_of top body_of grown_body
inner_grown s s₁ s₂ node dimension body next used depth r y none above w asc h k n e b p1 p2 p3 fit ad q = absurd (n refl)
inner_grown s s₁ s₂ node dimension body next used depth r y (leaf st ts more) above w asc h k n e b p1 p2 p3 fit ad q = absurd cc
inner_grown s s₁ s₂ node dimension body next used depth r y (inner d st children more) above w asc h k n e b p1 p2 p3 fit ad q =
    let m : number_of dimension ≡ d = inner_number d dimension (sym k) in
    let are = rw m at ad.are in
    body_grown s s₁ s₂ node body next used (suc d) r st _ w.0 e p1 p2 p3 fit (are children w.1 asc.1 (omega arith) b) q

-- ---- at a node

-- what remains of a key behind two strings
remains_two : (st : Strings) (nv np v p r : List ℕ) (a b : ℕ) → nv ∷ np ∷ [] ≡ st → a ≡ length nv → b ≡ length np
    → key_of (drop a v) (drop b p) r ≡ remains st (key_of v p r)
unfolding remains strip
remains_two st nv np v p r a b e f g = rw (← e, f, g)

module _ (s : List ℕ) (node : NodePlace) (used : ℕ) (above : Option Dimension) (depth : ℕ) (v p r : List ℕ) (d : node.next ≤ used) where
  abbrev x : Key
  x = key_of v p r

  abbrev node_strings : Strings
  node_strings = part (node.at + 7) node.path s ∷ part node.path node.body s ∷ []

  pub visit_agrees : (s' : List ℕ) (n i j : ℕ) → n ≤ 36 + length v + length p → used ≤ length s → all_begin node_strings (v ∷ p ∷ []) ≡ true
      → i ≡ length (part (node.at + 7) node.path s) → j ≡ length (part node.path node.body s)
      → Grown s node used depth (key_of (drop i v) (drop j p) r) s' n
      → AddedAt s node used above depth x s' n
  visit_agrees s' n i j l fit g ei ej grown =
      record {
        little = l;
        are = λ f w asc h e hd m.
            let st = stands s node.at node.kind node.path node.body node.next f w e hd (omega arith) in
            let rest = remains_two (top f) (part (node.at + 7) node.path s) (part node.path node.body s) v p r i j st.strings_are ei ej in
            let y = grown.are f above w asc h st.kind_is st.some st.front_is st.body_is in
            rw (single_agrees (above_of above) x f st.some m (rw st.strings_are at g), ← rest) y;
      }

  pub visit_differs : (s' : List ℕ) (n : ℕ) → n ≤ 36 + length v + length p → used ≤ length s → all_begin node_strings (v ∷ p ∷ []) ≡ false
      → Replaced s node.at node.next used (split_bytes (above_of above) (byte_of_kind node.kind) node_strings (region s node.body (node.next - node.body)) x) s' n
      → AddedAt s node used above depth x s' n
  visit_differs s' n l fit g replaced =
      record {
        little = l;
        are = λ f w asc h e hd m.
            let st = stands s node.at node.kind node.path node.body node.next f w e hd (omega arith) in
            let byte : byte_of_kind node.kind ≡ kind_of f = ap byte_of_kind st.kind_is ∙ byte_back (kind_of f) in
            rw (single_differs (above_of above) x f st.some m (rw st.strings_are at g), ← byte, ← st.strings_are, ← st.body_is) replaced;
      }

-- ---- among siblings

module _ (s : List ℕ) (off stop used : ℕ) (above : Option Dimension) (depth : ℕ) (v p r : List ℕ) (a : off ≤ stop) (b : stop ≤ used) where
  abbrev t : List ℕ
  t = region s off (stop - off)

  -- the node found has taken the key in
  pub added_node : (s' : List ℕ) (n : ℕ) (node there : NodePlace) (f : Forest) → used + n ≤ length s → height f ≤ depth
      → off + node.next ≤ stop → length t ≡ stop - off
      → (there.at ≡ off + node.at) × (there.kind ≡ node.kind) × (there.path ≡ off + node.path) × (there.body ≡ off + node.body) × (there.next ≡ off + node.next)
      → Here t above (v ∷ p ∷ []) f node.at node.kind node.path node.body node.next
      → AddedAt s there used above depth (key_of v p r) s' n
      → Replaced s off stop used (encode (added (above_of above) f (key_of v p r))) s' n
  added_node s' n node there f fit h l4 lt moved here ad =
      let q = here.passed in
      let over = q.over in
      let x = key_of v p r in
      let hd : PlacesOf there.at there.kind there.path there.body there.next over =
      rw (moved.0, moved.1, moved.2, moved.3, moved.4) (places_of t off node.at node.kind node.path node.body node.next node.path_behind node.body_behind node.next_behind (omega arith) over here.told) in
      let own = encode (single over) in
      let rest = encode (siblings over) in
      let lo : length own ≡ there.next - there.at = single_length _ _ _ _ _ over q.shaped hd in
      let whole : t ≡ q.front ++ (own ++ rest) = q.bytes ∙ ap (λ (w : List ℕ). q.front ++ w) (single_bytes over) in
      let ll : length t ≡ length q.front + (length own + length rest) = ap length whole ∙ length-append q.front (own ++ rest) ∙ ap (λ (m : ℕ). length q.front + m) (length-append own rest) in
      let lr = length-append own rest in
      let m1 : stop - off ≡ length q.front + length (own ++ rest) = omega arith in
      let one = stretch s off (stop - off) q.front (own ++ rest) whole m1 (omega arith) in
      let two = stretch s (off + length q.front) (length (own ++ rest)) own rest one.1 lr (omega arith) in
      let here-at : off + length q.front ≡ there.at = omega (arith, q.here, moved.0) in
      let stands_at : region s there.at (there.next - there.at) ≡ own = rw (← lo) (rw here-at at two.0) in
      let changed = ad.are over q.shaped q.ascends (omega (arith, q.lower)) stands_at hd here.leads in
      let wide = widened s s' off stop used n there.at there.next q.front own (encode (added (above_of above) (single over) x)) rest whole a b fit
      (omega (arith, q.here, moved.0)) (omega (arith, lo, there.path_behind, there.body_behind, there.next_behind))
      (omega (arith, lo, there.path_behind, there.body_behind, there.next_behind, ll, lt, q.here, moved.0, moved.4)) changed in
      rw (q.added x refl, single_added (above_of above) x over hd.some here.leads) wide

  -- a leaf has gone into the gap found
  pub added_gap : (s' : List ℕ) (n at : ℕ) (f : Forest) → used + n ≤ length s → length t ≡ stop - off → n ≡ length (encode (new_leaf (key_of v p r) none))
      → Passed t above (v ∷ p ∷ []) f at (λ g y. new_leaf y g)
      → s' ≡ splice s (off + at) (encode (new_leaf (key_of v p r) none) ++ region s (off + at) (used - (off + at)))
      → Replaced s off stop used (encode (added (above_of above) f (key_of v p r))) s' n
  added_gap s' n at f fit lt ln q e =
      let x = key_of v p r in
      let rest = encode q.over in
      let leaf_bytes = encode (new_leaf x none) in
      let ll : length t ≡ length q.front + length rest = ap length q.bytes ∙ length-append q.front rest in
      let wide = widened s s' off stop used n (off + at) (off + at) q.front [] leaf_bytes rest q.bytes a b fit
      (omega (arith, q.here)) (omega arith) (omega (arith, ll, lt, q.here)) (record { is = e; long = omega (arith, ln) }) in
      rw (q.added x refl, new_leaf_before x q.over) wide
