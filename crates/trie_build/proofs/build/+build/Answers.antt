-- The builder calls itself on each part; the undecided bytes of the set fall.
use native.Mathlib.Omega.{arith}
use Prim.Native.Nat.{ℕ, ◌+◌, ◌*◌, ◌-◌, ◌≤◌, ◌<◌}
use mathlib.Core.Path.{◌≡◌, ap, sym, ◌∙◌}
use mathlib.Core.List.{List, map}
use lib.ListN.{length, take, drop, length-drop}
use lib.Seq.{length-take-le}
use borrow.Author.Tests.{eqb-true}
use Rattle.buffer.specs.Splice.{splice}
use Rattle.entries.specs.Slots.{slot_size, slot_key}
use Rattle.trie_theory.specs.Dimensions.{below}
use Rattle.trie_theory.proofs.Fall.{undecided}
use Rattle.trie_read.specs.Kinds.{number_of}
use Rattle.trie_sets.specs.Sets.{slots_of}
use Rattle.trie_sets.proofs.Slotted.{slots_whole, slots_take, slots_drop, slots_even}
use Rattle.trie_build.specs.Steps.{Run, column_of, trie_bytes, Ready}
use Rattle.trie_build.proofs.Wrote.{part_splice}
use Rattle.trie_build.proofs.Building as law
use Rattle.trie_build.proofs.build.+build.Goals.{At-loop-rest, After-split_at_mut-part}
use Rattle.trie_build.proofs.build.+build.Goals as goal

-- ---- a leaf
pub put_suffixes-end-requires : goal.put_suffixes-end-requires
put_suffixes-end-requires t c =
    let a = c.requires.0 in
    let o = c.open_node-shape.ensures in
    (law.leaf_behind a o (slots_whole c.args.slots.now), omega (arith, law.leaf_room a o c.in_default.is, law.opened_long a o))

pub overflow_cast-end : goal.overflow_cast-end
overflow_cast-end t c = omega (arith, law.leaf_small c.requires.0 c.open_node-shape.ensures c.in_default.is, c.put_suffixes-end.ensures.1)

pub put32-requires : goal.put32-requires
put32-requires t c =
    let a = c.requires.0 in
    let o = c.open_node-shape.ensures in
    omega (arith, law.body_fits a o, law.opened_long a o, c.put_suffixes-end.auto.out)

pub returns-in_default : goal.returns-in_default
returns-in_default t c =
    law.leaf_done c.requires.0 c.open_node-shape.ensures c.in_default.is _ _ _ c.put_suffixes-end.ensures.0 c.put_suffixes-end.ensures.1 c.put32.ensures

-- ---- an inner node

-- where the next part ends
within : (t : ℕ) (c : At-loop-rest t) → let b = 7 + (c.open_node-shape.result.shared.value - c.args.known.value) + (c.open_node-shape.result.shared.path - c.args.known.path) in
    (b ≤ c.loop-rest.end) × (c.loop-rest.end ≤ length c.loop-rest.out) × (length c.loop-rest.out ≡ length c.args.out.now)
within t c =
    let a = c.requires.0 in
    let o = c.open_node-shape.ensures in
    let g = c.loop-rest.invariant.0 in
    let i = law.inner_within a o c.in-Inner.dimension c.in-Inner.is _ _ _ g in
    let l = law.opened_long a o in
    let k = law.inner_long a o c.in-Inner.dimension c.in-Inner.is _ _ _ g in
    (i.0, omega (arith, i.1), k ∙ l)

-- the slots of the part, and the others
cut : (t : ℕ) (c : After-split_at_mut-part t) → let p = c.split_at_mut-part.result in
    let r = c.run-size.result in
    let left = slots_of c.loop-rest.rest.now in
    (slots_of p.0.now ≡ take r left) × (slots_of p.1.now ≡ drop r left) × (length (slots_of p.0.now) ≡ r) × (length (slots_of p.1.now) + r ≡ length left)
cut t c =
    let s = c.split_at_mut-part.ensures in
    let r = c.run-size.result in
    let left = slots_of c.loop-rest.rest.now in
    let m = c.run-size.ensures.most in
    let e : length c.loop-rest.rest.now ≡ (r + (length left - r)) * slot_size = c.loop-rest.invariant.1 ∙ omega arith in
    let l : length (slots_of c.split_at_mut-part.result.1.now) ≡ length left - r = slots_even _ _ (omega (arith, s.back_len)) in (
      ap slots_of s.front ∙ slots_take r (length left - r) c.loop-rest.rest.now e,
      ap slots_of s.back ∙ slots_drop r (length left - r) c.loop-rest.rest.now e,
      slots_even _ r s.front_len,
      omega arith,
    )

run : (t : ℕ) (c : After-split_at_mut-part t) → let w = c.open_node-shape.result.shared in
    Run (slots_of c.loop-rest.rest.now) (column_of (number_of c.in-Inner.dimension) w.value w.path) c.run-size.result
run t c = rw c.column_of-column.ensures at c.run-size.ensures

-- what the builder is asked for
ready : (t : ℕ) (c : After-split_at_mut-part t) → let w = c.open_node-shape.result.shared in
    Ready (length c.loop-rest.out - c.loop-rest.end) (slots_of c.split_at_mut-part.result.0.now) c.args.tau (below (number_of c.in-Inner.dimension)) w.value w.path
ready t c =
    let a = c.requires.0 in
    let o = c.open_node-shape.ensures in
    let b = within t (goal.at.After-split_at_mut-part t c).At-loop-rest in
    rw (cut t c).0
    (law.part_ready a o c.in-Inner.dimension c.in-Inner.is _ _ _ c.loop-rest.invariant.0 c.run-size.result (run t c) (length c.loop-rest.out - c.loop-rest.end) (omega (arith, law.opened_long a o)))

pub loop-rest-init : goal.loop-rest-init
loop-rest-init t c =
    let a = c.requires.0 in
    let o = c.open_node-shape.ensures in (
      law.inner_start a o c.in-Inner.dimension c.in-Inner.is _ (rw c.column_of-column.ensures at c.partition.ensures.set),
      rw (slots_even c.partition.new.slots (length (slots_of c.args.slots.now)) (c.partition.auto.slots ∙ c.requires.1)) (c.partition.auto.slots ∙ c.requires.1),
      omega arith,
    )

pub slice_bounds-build-count : goal.slice_bounds-build-count
slice_bounds-build-count t c = omega (arith, within t (goal.at.slice_bounds-build-count t c).At-loop-rest)

pub slice_bounds-build-start : goal.slice_bounds-build-start
slice_bounds-build-start t c = (within t (goal.at.slice_bounds-build-start t c).At-loop-rest).1

pub build-end-requires : goal.build-end-requires
build-end-requires t c =
    let d = (goal.at.build-end-requires t c).After-split_at_mut-part in
    let p = cut t d in
    let m = law.part_falls c.requires.0 c.open_node-shape.ensures c.in-Inner.dimension c.in-Inner.is _ _ _ c.loop-rest.invariant.0 c.run-size.result (run t d) in
    let q : undecided (map slot_key (slots_of c.args.slots.now)) ≡ t = c.decreases in
    let f : undecided (map slot_key (slots_of c.split_at_mut-part.result.0.now)) < t = rw p.0 (omega arith) in
    let l : length (take (length c.loop-rest.out - c.loop-rest.end) (drop c.loop-rest.end c.loop-rest.out)) ≡ length c.loop-rest.out - c.loop-rest.end =
    length-take-le (length c.loop-rest.out - c.loop-rest.end) (drop c.loop-rest.end c.loop-rest.out) (rw length-drop (omega arith)) in (
      f,
      (
        rw l (ready t d),
        rw p.2 c.split_at_mut-part.ensures.front_len,
        omega (arith, c.split_at_mut-part.ensures.front_len, c.split_at_mut-part.ensures.back_len, c.loop-rest.invariant.2, c.partition.auto.slots, c.partition.auto.scratch, c.loop-rest.auto.scratch, c.requires.2),
      ),
    )

pub overflow_add-end : goal.overflow_add-end
overflow_add-end t c =
    let d = (goal.at.overflow_add-end t c).After-split_at_mut-part in
    omega (arith, c.build-end.ensures.1, (ready t d).fits, within t (goal.at.overflow_add-end t c).At-loop-rest)

pub loop-rest-preserved : goal.loop-rest-preserved
loop-rest-preserved t c =
    let d = (goal.at.loop-rest-preserved t c).After-split_at_mut-part in
    let p = cut t d in
    let w = within t (goal.at.loop-rest-preserved t c).At-loop-rest in
    let a = c.requires.0 in
    let o = c.open_node-shape.ensures in
    let v = c.open_node-shape.result.shared in
    let own = trie_bytes c.args.tau (below (number_of c.in-Inner.dimension)) v.value v.path (map slot_key (slots_of c.split_at_mut-part.result.0.now)) in
    let same = ap (λ (rs : List (List ℕ)). trie_bytes c.args.tau (below (number_of c.in-Inner.dimension)) v.value v.path (map slot_key rs)) p.0 in
    let put = c.build-end.ensures.0 in
    let s = part_splice c.loop-rest.out c.loop-rest.end (length c.loop-rest.out - c.loop-rest.end) own (omega arith) (ready t d).fits in
    let more = law.part_more a o c.in-Inner.dimension c.in-Inner.is _ _ _ c.loop-rest.invariant.0 c.run-size.result (run t d) in
    let to = ap (λ (k : ℕ). c.loop-rest.end + k) c.build-end.ensures.1 in (
      rw p.1 (more _ _ (rw put (s ∙ ap (splice c.loop-rest.out c.loop-rest.end) same)) (to ∙ ap (λ (b : List ℕ). c.loop-rest.end + length b) same)),
      omega (arith, p.3, c.split_at_mut-part.ensures.back_len, c.loop-rest.invariant.1),
      omega (arith, c.split_at_mut-part.ensures.back_len, c.loop-rest.invariant.2),
    )

pub overflow_cast-end-2 : goal.overflow_cast-end-2
overflow_cast-end-2 t c =
    let z : length c.loop-rest.rest.now ≡ 0 = eqb-true _ _ (sym c.is_empty.ensures ∙ c.loop-rest-test.false) in
    omega (arith, law.inner_end c.requires.0 c.open_node-shape.ensures c.in-Inner.dimension c.in-Inner.is _ _ _ c.loop-rest.invariant.0 (omega (arith, c.loop-rest.invariant.1)))

pub put32-requires-2 : goal.put32-requires-2
put32-requires-2 t c =
    omega (arith, within t (goal.at.put32-requires-2 t c).At-loop-rest)

pub returns : goal.returns
returns t c =
    let z : length c.loop-rest.rest.now ≡ 0 = eqb-true _ _ (sym c.is_empty.ensures ∙ c.loop-rest-test.false) in
    law.inner_done c.requires.0 c.open_node-shape.ensures c.in-Inner.dimension c.in-Inner.is _ _ _ c.loop-rest.invariant.0
    (omega (arith, c.loop-rest.invariant.1)) _ c.put32-2.ensures
