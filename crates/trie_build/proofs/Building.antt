-- One call of the builder: what it knows of its set once the node is opened, a leaf, an inner node, and what it asks of the builder
-- for each part. Assumes nothing.
use mathlib.Core.Path.{◌≡◌, refl, sym, ap, ◌∙◌}
use mathlib.Core.Bool.{true}
use mathlib.Core.Option.{some}
use Prim.Native.Nat.{ℕ, zero, suc, ◌+◌, ◌-◌, ◌≤◌, ◌<◌}
use mathlib.Core.List.{List, [], ◌∷◌, ◌++◌, map, append_assoc}
use native.Mathlib.Omega.{arith}
use lib.ListN.{length, get_or, take, drop, length-append, length-drop}
use lib.Dec.{eqb}
use lib.Seq.{length-take-le}
use Rattle.buffer.specs.Lists.{All, nil}
use Rattle.buffer.specs.Numbers.{bytes_of}
use Rattle.buffer.specs.Sizes.{four_byte_limit}
use Rattle.buffer.specs.Splice.{splice}
use Rattle.buffer.proofs.Lists.{all_imp, all_pick, all_append, all_test, all_tested}
use Rattle.buffer.proofs.Digits.{length_bytes_of}
use Rattle.buffer.proofs.Splice.{length_splice, splice_then, splice_inside}
use Rattle.entries.specs.Slots.{slot_size, slot_key, short_path}
use Rattle.trie_theory.specs.Forest.{Key}
use Rattle.trie_theory.specs.Strings.{at}
use Rattle.trie_theory.specs.Dimensions.{Above, root, below, wanted, next}
use Rattle.trie_theory.specs.Position.{shared, differ}
use Rattle.trie_theory.specs.Parts.{parts}
use Rattle.trie_theory.specs.Level.{choice}
use Rattle.trie_theory.proofs.LevelStep.{choice_differ, choice_inside}
use Rattle.trie_theory.proofs.Fall.{undecided, parts_fall}
use Rattle.trie_theory.proofs.Prefix.{From, shared_all}
use Rattle.trie_theory.proofs.Parts.{partition}
use Rattle.trie_read.specs.Heads.{front}
use Rattle.trie_read.specs.Kinds.{number_of, byte_of_kind}
use Rattle.trie_read.specs.declared.kind.Dimension.{Dimension}
use Rattle.trie_read.specs.declared.kind.Dimension.TheVariants.{Value, Path, Other}
use Rattle.trie_read.specs.declared.kind.Kind.{Kind}
use Rattle.trie_read.specs.declared.kind.Kind.TheVariants.{Leaf, Inner}
use Rattle.trie_read.proofs.Node.{length_front}
use Rattle.trie_sets.specs.Positions.{OfTwo}
use Rattle.trie_sets.specs.Partition.{by_bytes, with_byte}
use Rattle.trie_sets.proofs.Sets.{nth}
use Rattle.trie_sets.proofs.Splitting.{path_short}
use Rattle.trie_build.specs.Nodes.{rests_bytes, Behind}
use Rattle.trie_build.specs.Steps.{Ready, trie_bytes, column_of, Opened, Run}
use Rattle.trie_build.proofs.Columns.{column, slots_parts}
use Rattle.trie_build.proofs.Noding.{leaf_body, inner_body, leaf_node, inner_node, rests_leaf}
use Rattle.trie_build.proofs.Opening.{shared_two, path_each, trie_room_lem}
use Rattle.trie_build.proofs.Going.{Going, going_start, going_end, set_value, set_path, set_falls, set_room, set_most, set_short, going_more, bytes_for}
use Rattle.trie_build.proofs.Wrote.{wrote_long, wrote_fits}

-- ---- the kind of a node

-- below a node of two dimensions, or at the root, one of the two is wanted
wanted_two : (above : Above) → OfTwo above → wanted 2 above < 2
unfolding wanted next
wanted_two root h = omega arith
wanted_two (below zero) h = omega arith
wanted_two (below (suc zero)) h = omega arith
wanted_two (below (suc (suc d))) h = absurd (omega arith)

-- the first byte of an inner node
inner_byte : (d : Dimension) → number_of d < 2 → byte_of_kind (Inner d) ≡ suc (number_of d)
inner_byte Value h = refl
inner_byte Path h = refl
inner_byte (Other b) h = absurd (omega arith)

-- undecided bytes fall
falls_all : (d : ℕ) (rs : List (List ℕ)) → 0 < length rs → differ d (map slot_key rs) ≡ true
    → All (λ q. undecided q < undecided (map slot_key rs)) (parts d (map slot_key rs))
falls_all d [] h e = absurd (omega arith)
falls_all d (r ∷ rs) h e = parts_fall d (slot_key r) (map slot_key rs) e

-- what holds of slots holds of them sorted
by_all : {P : List ℕ → Type 0} (c f b : ℕ) (rs : List (List ℕ)) → All P rs → All P (by_bytes c f b rs)
unfolding by_bytes with_byte
by_all c zero b rs a = nil
by_all c (suc f) b rs a = all_append (all_imp (λ r q. q.0) (all_pick (λ r. eqb (get_or r c 0) b) a)) (by_all c f (suc b) rs a)

module _ {s : List ℕ} {rs : List (List ℕ)} {τ : ℕ} {above : Above} {v p : ℕ} (a : Ready (length s) rs τ above v p) {s₁ : List ℕ} {kind : Kind} {value path : ℕ}
    (o : Opened s rs τ above v p s₁ kind value path) where
  abbrev ks : List Key
  ks = map slot_key rs

  abbrev body : ℕ
  body = 7 + (value - v) + (path - p)

  abbrev bytes : List ℕ
  bytes = trie_bytes τ above v p ks

  two : length (shared ks) ≡ 2
  two = shared_two rs a.some

  abbrev a0 : List ℕ
  a0 = drop v (at 0 (shared ks))

  abbrev a1 : List ℕ
  a1 = drop p (at 1 (shared ks))

  abbrev opening : ℕ → List ℕ
  opening n = front (byte_of_kind kind) (a0 ∷ a1 ∷ []) n

  -- the strings are those that the positions part
  pub low : (v ≤ value) × (p ≤ path)
  low = (omega (arith, o.split.value_is, a.value_known), omega (arith, o.split.path_is, a.path_known))

  length_opening : (n : ℕ) → length (opening n) ≡ body
  length_opening n =
      length_front (byte_of_kind kind) (a0 ∷ a1 ∷ []) n
      ∙ rw (length-drop v (at 0 (shared ks)), length-drop p (at 1 (shared ks)), ← o.split.value_is, ← o.split.path_is) refl

  pub body_fits : body ≤ length s
  body_fits = omega (arith, trie_room_lem τ above v p ks two a.value_known a.path_known, a.fits, o.split.value_is, o.split.path_is)

  pub opened_long : length s₁ ≡ length s
  opened_long = ap length o.is ∙ length_splice s 0 (opening 0) (omega (arith, length_opening 0, body_fits))

  module _ (b : List ℕ) (e : bytes ≡ opening (length b) ++ b) where
    long : length bytes ≡ body + length b
    long = ap length e ∙ length-append (opening (length b)) b ∙ omega (arith, length_opening (length b))

    -- a body is not longer than all
    body_room : (body + length b ≤ length s) × (length b < four_byte_limit)
    body_room = (omega (arith, long, a.fits), omega (arith, long, a.small))

    -- THE BYTES of the trie, where the body is written behind the strings, and then its length
    node_done : (s₂ s₃ : List ℕ) (end : ℕ) → s₂ ≡ splice s₁ body b → end ≡ body + length b → s₃ ≡ splice s₂ 3 (bytes_of 4 (end - body))
        → (s₃ ≡ splice s 0 bytes) × (end ≡ length bytes)
    unfolding front
    node_done s₂ s₃ end q f g =
        let three : List ℕ = byte_of_kind kind ∷ length a0 ∷ length a1 ∷ [] in
        let z : List ℕ = (a0 ++ a1) ++ b in
        let l4 = length_bytes_of 4 0 in
        let n4 = length_bytes_of 4 (length b) in
        let lo = length_opening 0 in
        let size : end - body ≡ length b = omega arith in
        let fit : 0 + length (opening 0) ≤ length s = omega (arith, body_fits) in
        let parts_of : (n : ℕ) → opening n ++ b ≡ three ++ (bytes_of 4 n ++ z) = λ n. simp append_assoc in
        let all : s₂ ≡ splice s 0 (opening 0 ++ b) = q ∙ splice_then s₁ s 0 (opening 0) body b o.is (omega arith) fit in
        let lz : length (opening 0 ++ b) ≡ body + length b = length-append (opening 0) b ∙ omega arith in
        let lp : length (opening 0 ++ b) ≡ 3 + (4 + length z) = ap length (parts_of 0) ∙ length-append three (bytes_of 4 0 ++ z) ∙ omega (arith, length-append (bytes_of 4 0) z) in (
          g ∙ rw (size, all, parts_of 0) (splice_inside s 0 three (bytes_of 4 0) (bytes_of 4 (length b)) z (omega arith) (omega (arith, body_room)))
              ∙ ap (splice s 0) (sym (e ∙ parts_of (length b))),
          omega (arith, long),
        )

  -- ---- a leaf

  module _ (leaf : kind ≡ Leaf) where
    leaf_is : bytes ≡ opening (length (leaf_body ks)) ++ leaf_body ks
    leaf_is =
        rw leaf (leaf_node τ above v p ks two a.value_known a.path_known (sym (rw leaf at o.split.kind_is)))

    rests : rests_bytes value path rs ≡ leaf_body ks
    rests = rw (o.split.value_is, o.split.path_is) (rests_leaf rs two)

    pub leaf_room : body + length (rests_bytes value path rs) ≤ length s
    leaf_room = rw rests (body_room (leaf_body ks) leaf_is).0

    pub leaf_small : length (rests_bytes value path rs) < four_byte_limit
    leaf_small = rw rests (body_room (leaf_body ks) leaf_is).1

    pub leaf_done : (s₂ s₃ : List ℕ) (end : ℕ) → s₂ ≡ splice s₁ body (rests_bytes value path rs) → end ≡ body + length (rests_bytes value path rs)
        → s₃ ≡ splice s₂ 3 (bytes_of 4 (end - body)) → (s₃ ≡ splice s 0 bytes) × (end ≡ length bytes)
    leaf_done s₂ s₃ end q f g = node_done (leaf_body ks) leaf_is s₂ s₃ end (rw rests at q) (rw rests at f) g

  pub leaf_behind : ((k : ℕ) → k < length rs → length (nth rs k) ≡ slot_size) → (k : ℕ) → k < length rs → Behind (nth rs k) path
  leaf_behind whole k h =
      (omega (arith, o.split.path_is, path_each rs a.some whole a.short k h), omega (arith, path_short rs a.short k h))

  -- ---- an inner node

  module _ (dimension : Dimension) (inner : kind ≡ Inner dimension) where
    abbrev d : ℕ
    d = number_of dimension

    chosen : choice 2 τ above ks ≡ some d
    chosen = sym (rw inner at o.split.kind_is)

    pub of_two : d < 2
    of_two = choice_inside 2 τ above ks d (wanted_two above a.two) chosen

    differs : differ d ks ≡ true
    differs = choice_differ 2 τ above ks d chosen

    columns : column_of d value path ≡ column d (shared ks)
    columns = rw (o.split.value_is, o.split.path_is) refl

    inner_is : bytes ≡ opening (length (inner_body τ d ks)) ++ inner_body τ d ks
    inner_is = rw (inner, inner_byte dimension of_two) (inner_node τ above v p ks two a.value_known a.path_known d chosen)

    pub inner_room : body + length (bytes_for τ d (shared ks) (parts d ks)) ≤ length s₁
    inner_room = rw opened_long (body_room (inner_body τ d ks) inner_is).0

    pub inner_small : length (bytes_for τ d (shared ks) (parts d ks)) < four_byte_limit
    inner_small = (body_room (inner_body τ d ks) inner_is).1

    -- what holds after some of the parts
    abbrev pub Now : List (List ℕ) → List ℕ → ℕ → Type 0
    Now left s' end = Going s₁ body τ d (shared ks) (undecided ks) (parts d ks) left s' end

    pub inner_start : (sorted : List (List ℕ)) → sorted ≡ by_bytes (column_of d value path) 256 0 rs → Now sorted s₁ body
    inner_start sorted e =
        going_start s₁ body τ d (shared ks) (undecided ks) (parts d ks) sorted
        (ap (map slot_key) (e ∙ rw columns refl) ∙ slots_parts d rs of_two differs)
        (partition (From (shared ks)) d (shared_all ks)) (falls_all d rs a.some differs)
        (rw e (all_test short_path (by_all (column_of d value path) 256 0 rs (all_tested short_path rs a.short))))

    module _ (left : List (List ℕ)) (s' : List ℕ) (end : ℕ) (g : Now left s' end) where
      pub inner_long : length s' ≡ length s₁
      inner_long = wrote_long g.wrote inner_room

      pub inner_within : (body ≤ end) × (end ≤ length s₁)
      inner_within = (omega (arith, g.wrote.to), omega (arith, g.wrote.to, wrote_fits g.wrote inner_room))

      pub inner_end : length left ≡ 0 → (body ≤ end) × (end - body < four_byte_limit)
      inner_end e = let q = (going_end g inner_room e).1 in (omega arith, omega (arith, inner_small))

      pub inner_done : length left ≡ 0 → (s'' : List ℕ) → s'' ≡ splice s' 3 (bytes_of 4 (end - body)) → (s'' ≡ splice s 0 bytes) × (end ≡ length bytes)
      inner_done e s'' f = let q = going_end g inner_room e in node_done (inner_body τ d ks) inner_is s' s'' end q.0 q.1 f

      -- one part
      module _ (r : ℕ) (w : Run left (column_of d value path) r) where
        run : Run left (column d (shared ks)) r
        run = rw columns at w

        pub part_ready : (n : ℕ) → end + n ≡ length s₁ → Ready n (take r left) τ (below d) value path
        part_ready n e =
            let room = set_room g inner_room of_two two r run in
            let most = set_most g inner_room of_two two r run in
            record {
              some = omega (arith, length-take-le r left w.most, w.some);
              two = of_two;
              short = set_short g inner_room of_two two r run;
              value_known = rw o.split.value_is (set_value g inner_room of_two two r run);
              path_known = rw o.split.path_is (set_path g inner_room of_two two r run);
              fits = rw (o.split.value_is, o.split.path_is) (omega arith);
              small = rw (o.split.value_is, o.split.path_is) (omega (arith, inner_small));
            }

        pub part_falls : undecided (map slot_key (take r left)) < undecided ks
        part_falls = set_falls g inner_room of_two two r run

        pub part_more : (s'' : List ℕ) (end' : ℕ) → s'' ≡ splice s' end (trie_bytes τ (below d) value path (map slot_key (take r left)))
            → end' ≡ end + length (trie_bytes τ (below d) value path (map slot_key (take r left))) → Now (drop r left) s'' end'
        part_more s'' end' b e =
            going_more g inner_room of_two two r run s'' end' (rw (o.split.value_is, o.split.path_is) at b) (rw (o.split.value_is, o.split.path_is) at e)
