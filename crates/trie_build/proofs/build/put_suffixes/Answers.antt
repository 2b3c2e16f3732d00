-- Suffix by suffix.
use native.Mathlib.Omega.{arith}
use Prim.Native.Nat.{◌+◌, ◌≤◌}
use mathlib.Core.Path.{◌∙◌}
use mathlib.Core.List.{[]}
use lib.ListN.{length, get_or, drop}
use Rattle.trie_sets.proofs.Slotted.{chunks_slots}
use Rattle.trie_theory.specs.Encode.{suffix_bytes}
use Rattle.trie_build.specs.Nodes.{rest, rests_bytes}
use Rattle.trie_build.proofs.Wrote.{wrote_none, wrote_all, wrote_more, wrote_room, rests_next, rests_end}
use Rattle.trie_build.proofs.build.put_suffixes.Goals as goal

pub loop-slot-init : goal.loop-slot-init
loop-slot-init c = wrote_none c.args.out.now c.args.at _

pub put_rest-end-requires : goal.put_rest-end-requires
put_rest-end-requires c =
    let a = c.args in
    let set = c.as_chunks.result.0.now in
    let e = c.as_chunks.ensures.front ∙ chunks_slots a.slots.now in
    let l = c.loop-slot in
    let h = c.loop-slot-test.true in
    let room : a.at + length (rests_bytes a.shared.value a.shared.path set) ≤ length a.out.now = rw e c.requires.1 in
    let x = suffix_bytes (rest a.shared.value a.shared.path (get_or set l.slot-index [])) in
    let f = wrote_room l.invariant room x (rests_bytes a.shared.value a.shared.path (drop (l.slot-index + 1) set)) (rests_next a.shared.value a.shared.path set l.slot-index h) in
    ((rw (← e) at c.requires.0) l.slot-index h, omega (arith, l.auto.out))

pub loop-slot-preserved : goal.loop-slot-preserved
loop-slot-preserved c =
    let a = c.args in
    let set = c.as_chunks.result.0.now in
    let e = c.as_chunks.ensures.front ∙ chunks_slots a.slots.now in
    let l = c.loop-slot in
    let room : a.at + length (rests_bytes a.shared.value a.shared.path set) ≤ length a.out.now = rw e c.requires.1 in
    rw c.put_rest-end.ensures.1
    (wrote_more l.invariant room _ _ _ (rests_next a.shared.value a.shared.path set l.slot-index c.loop-slot-test.true) c.put_rest-end.ensures.0)

pub returns : goal.returns
returns c =
    let a = c.args in
    let set = c.as_chunks.result.0.now in
    let e = c.as_chunks.ensures.front ∙ chunks_slots a.slots.now in
    rw e at (wrote_all c.loop-slot.invariant (rests_end a.shared.value a.shared.path set c.loop-slot.slot-index (omega arith)))
