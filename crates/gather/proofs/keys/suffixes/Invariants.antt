-- Each turn puts the row of one suffix, or passes it (`Going`), and what is left is shorter.
use Prim.Native.Nat.{◌*◌}
use mathlib.Core.Path.{◌≡◌}
use lib.ListN.{length, take}
use Rattle.entries.specs.Slots.{slot_size}
use Rattle.gather.specs.Walks.{known_strings}
use Rattle.gather.specs.Visits.{node_size, SuffixVisits}
use Rattle.gather.proofs.Turning.{Going}
use Rattle.gather.proofs.keys.suffixes.Given as goal

abbrev pub invariant-loop-suffix : goal.invariant-loop-suffix
invariant-loop-suffix g l = record {
  going : Going g.F.Format.slot_row (SuffixVisits l.below.nodes (take (node_size * l.below.nodes) l.way) (known_strings l.below.known l.initial.key) l.body)
      (SuffixVisits l.below.nodes (take (node_size * l.below.nodes) l.way) (known_strings l.below.known l.initial.key) l.suffix-iterator.0.now)
      l.below l.body l.suffix-iterator.0.now l.initial.output l.output l.initial.key l.key;
  long : length l.key ≡ slot_size;
}
