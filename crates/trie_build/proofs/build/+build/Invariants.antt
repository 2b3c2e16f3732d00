-- The builder calls itself on each part; the undecided bytes of the set fall.
use Prim.Native.Nat.{◌*◌, ◌≤◌}
use mathlib.Core.Path.{◌≡◌}
use mathlib.Core.List.{map}
use lib.ListN.{length}
use Rattle.entries.specs.Slots.{slot_size, slot_key}
use Rattle.trie_theory.specs.Position.{shared}
use Rattle.trie_theory.specs.Parts.{parts}
use Rattle.trie_theory.proofs.Fall.{undecided}
use Rattle.trie_read.specs.Kinds.{number_of}
use Rattle.trie_sets.specs.Sets.{slots_of}
use Rattle.trie_build.proofs.Going.{Going}
use Rattle.trie_build.proofs.build.+build.Given as goal

abbrev pub decreases-build : goal.decreases-build
decreases-build l = undecided (map slot_key (slots_of l.slots.now))

abbrev pub invariant-loop-rest : goal.invariant-loop-rest
invariant-loop-rest l =
    let ks = map slot_key (slots_of l.fn.slots) in
    let d = number_of l.dimension in
    Going l.initial.out l.body l.tau d (shared ks) (undecided ks) (parts d ks) (slots_of l.rest) l.out l.end
    × (length l.rest ≡ length (slots_of l.rest) * slot_size)
    × (length l.rest ≤ length l.initial.rest)

abbrev pub decreases-loop-rest : goal.decreases-loop-rest
decreases-loop-rest l = length l.rest
