-- Each turn puts the rows of one node (`Going`); what is left of the siblings is shorter, and fewer nodes are left to enter.
use Prim.Native.Nat.{◌-◌, ◌*◌}
use mathlib.Core.Path.{◌≡◌}
use lib.ListN.{take}
use Rattle.rows.specs.Sizes.{node_limit}
use Rattle.gather.specs.Walks.{known_strings}
use Rattle.gather.specs.Visits.{node_size, TrieVisits}
use Rattle.gather.proofs.Turning.{Going}
use Rattle.gather.proofs.keys.+walk.Given as goal

abbrev pub decreases-walk : goal.decreases-walk
decreases-walk g l = node_limit - l.below.nodes

abbrev pub invariant-loop-node : goal.invariant-loop-node
invariant-loop-node g l = record {
  going : Going g.F.Format.slot_row (TrieVisits l.below.nodes (take (node_size * l.below.nodes) l.initial.way) (known_strings l.below.known l.initial.key) l.tries)
      (TrieVisits l.below.nodes (take (node_size * l.below.nodes) l.initial.way) (known_strings l.below.known l.initial.key) l.node-iterator.0.now)
      l.below l.tries l.node-iterator.0.now l.initial.output l.output l.initial.key l.key;
  way : take (node_size * l.below.nodes) l.way ≡ take (node_size * l.below.nodes) l.initial.way;
}
