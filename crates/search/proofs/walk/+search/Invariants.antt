-- Each turn finds the keys of one node that a search enters, or passes it (`Going`); what is left of the siblings is shorter, and the depth left falls.
use Prim.Native.Nat.{◌+◌, ◌*◌}
use Rattle.trie_read.specs.Shape.{above_of}
use Rattle.gather.specs.Walks.{known_strings}
use Rattle.search.specs.Asks.{asks}
use Rattle.search.specs.Searches.{TriesFound}
use Rattle.search.proofs.Finding.{Going}
use Rattle.search.proofs.walk.+search.Given as goal

abbrev pub decreases-search_body : goal.decreases-search_body
decreases-search_body l = 2 * l.depth + 1

abbrev pub decreases-search_tries : goal.decreases-search_tries
decreases-search_tries l = 2 * l.depth

abbrev pub invariant-search_tries-loop-node : goal.invariant-search_tries-loop-node
invariant-search_tries-loop-node l =
    Going (TriesFound (asks l.q) (above_of l.above) l.depth (known_strings l.known l.initial.key) l.tries) (TriesFound (asks l.q) (above_of l.above) l.depth (known_strings l.known l.initial.key) l.node-iterator.0.now) l.known l.tries l.node-iterator.0.now l.initial.output l.output l.initial.key l.key l.nodes
