-- The split of the set, and its strings written.
use native.Mathlib.Omega.{arith}
use mathlib.Core.Path.{◌∙◌}
use lib.ListN.{length-drop}
use mathlib.Core.List.{map}
use Rattle.entries.specs.Slots.{slot_key}
use Rattle.trie_theory.specs.Strings.{at}
use Rattle.trie_theory.specs.Position.{shared}
use Rattle.trie_sets.specs.Sets.{slots_of}
use Rattle.trie_sets.proofs.Slotted.{chunks_slots, slots_whole}
use Rattle.trie_build.proofs.Opening.{node_strings, strings_room}
use Rattle.trie_build.proofs.build.open_node.Goals as goal

pub bounds-set-0 : goal.bounds-set-0
bounds-set-0 c = rw (c.as_chunks.ensures.front ∙ chunks_slots c.args.slots.now) c.requires.some

pub put_front-requires : goal.put_front-requires
put_front-requires c =
    let rs = slots_of c.args.slots.now in
    let e = c.as_chunks.ensures.front ∙ chunks_slots c.args.slots.now in
    let w = node_strings rs (slots_whole c.args.slots.now) c.requires c.split-shape.ensures in
    let q = shared (map slot_key rs) in
    let s = c.split-shape.ensures in
    rw (e, w.0, w.1) (
      strings_room rs c.requires,
      omega (arith, length-drop c.args.known.value (at 0 q), s.value_is),
      omega (arith, length-drop c.args.known.path (at 1 q), s.path_is),
    )

pub returns : goal.returns
returns c =
    let rs = slots_of c.args.slots.now in
    let e = c.as_chunks.ensures.front ∙ chunks_slots c.args.slots.now in
    let w = node_strings rs (slots_whole c.args.slots.now) c.requires c.split-shape.ensures in
    record { split = c.split-shape.ensures; is = rw (e, w.0, w.1) at c.put_front.ensures }
