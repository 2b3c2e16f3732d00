-- The two positions decide the kind.
use native.Mathlib.Omega.{arith}
use Prim.Native.Nat.{ℕ, ◌+◌, ◌<◌}
use mathlib.Core.Path.{◌≡◌, sym, ◌∙◌}
use lib.ListN.{length}
use lib.Dec.{ltb}
use mathlib.Core.List.{map}
use Rattle.entries.specs.Slots.{slot_size, slot_key}
use Rattle.trie_read.specs.Shape.{above_of}
use Rattle.trie_sets.specs.Sets.{slots_of}
use Rattle.trie_sets.specs.Positions.{slot_byte, Least}
use Rattle.rows.specs.Sizes.{value_size}
use Rattle.trie_theory.specs.Strings.{at}
use Rattle.trie_theory.specs.Position.{shared, differ}
use Rattle.trie_sets.proofs.Slotted.{chunks_slots, slots_small, slots_whole}
use Rattle.trie_sets.proofs.Splitting as law
use Rattle.trie_sets.proofs.positions.split.Goals.{After-least_path, After-common_bytes-path, then-set-tau, else-set-tau}
use Rattle.trie_sets.proofs.positions.split.Goals as goal

-- the chunks are the slots
set : (c : After-least_path) → c.as_chunks.result.0.now ≡ slots_of c.args.slots.now
set c = c.as_chunks.ensures.front ∙ chunks_slots c.args.slots.now

least : (c : After-least_path) → Least (slots_of c.args.slots.now) c.least_path.result
least c = rw (set c) at c.least_path.ensures

small : (c : After-least_path) (k i : ℕ) → k < length (slots_of c.args.slots.now) → i < slot_size → slot_byte (slots_of c.args.slots.now) k i < 256
small c = slots_small c.args.slots.now (λ i. omega (arith, c.type_inv.slots i))

value_is : (c : After-common_bytes-path) → let v = c.common_bytes-value.result in
    let ks = map slot_key (slots_of c.args.slots.now) in
    (length (at 0 (shared ks)) ≡ v) × (ltb v value_size ≡ differ 0 ks)
value_is c =
    let b = (goal.at.After-common_bytes-path c).After-least_path in
    let r = c.requires in
    let w = slots_whole c.args.slots.now in
    let a = rw (set b) at c.common_bytes-value.ensures in
    (law.value_shared r.0 w r.2 (small b) (least b) r.3 a, law.value_differs r.0 w r.2 (small b) (least b) r.3 a)

path_is : (c : After-common_bytes-path) → let p = c.common_bytes-path.result in
    let ks = map slot_key (slots_of c.args.slots.now) in
    (length (at 1 (shared ks)) ≡ p) × (ltb p (c.from-ends.result + 1) ≡ differ 1 ks)
path_is c =
    let b = (goal.at.After-common_bytes-path c).After-least_path in
    let r = c.requires in
    let w = slots_whole c.args.slots.now in
    let a = rw (set b, c.from-ends.ensures) at c.common_bytes-path.ensures in
    (law.path_shared r.0 w r.2 (small b) (least b) r.4 a, rw c.from-ends.ensures (law.path_differs r.0 w r.2 (small b) (least b) r.4 a))

pub least_path-requires : goal.least_path-requires
least_path-requires c = rw (c.as_chunks.ensures.front ∙ chunks_slots c.args.slots.now) c.requires.0

pub common_bytes-path-requires : goal.common_bytes-path-requires
common_bytes-path-requires c =
    let b = (goal.at.common_bytes-path-requires c).After-least_path in
    let r = c.requires in (
      rw (set b) r.0,
      omega (arith, law.path_known r.0 (slots_whole c.args.slots.now) r.2 (small b) (least b)),
      omega (arith, law.least_short r.0 (slots_whole c.args.slots.now) r.2 (small b) (least b)),
    )

pub invariant_of-result-clause-path_fits : goal.invariant_of-result-clause-path_fits
invariant_of-result-clause-path_fits c =
    let b = (goal.at.invariant_of-result-clause-path_fits c).After-least_path in
    omega (arith, c.common_bytes-path.ensures.high, c.from-ends.ensures, law.least_short c.requires.0 (slots_whole c.args.slots.now) c.requires.2 (small b) (least b))

pub returns : goal.returns
returns c =
    let a = c.args in
    let rs = slots_of a.slots.now in
    let m = (goal.at.returns c).After-common_bytes-path in
    let e = set (goal.at.returns c).After-least_path in
    record {
      kind_is = elim c.if-set-tau.branch [
        | then-set-tau w ↦
            rw w.kind-is (w.kind_of_set-kind.ensures ∙ law.kind_many a.tau (above_of a.above) rs c.requires.1 _ _ (value_is m).1 (path_is m).1 (rw e at w.if-set-tau.true))
        | else-set-tau w ↦ rw w.kind-is (law.kind_few a.tau (above_of a.above) rs (rw e at w.if-set-tau.false))
      ];
      value_is = sym (value_is m).0;
      path_is = sym (path_is m).0;
    }
