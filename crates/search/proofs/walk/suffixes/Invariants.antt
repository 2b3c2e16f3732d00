-- Each turn finds the key of one suffix, or passes it (`Going`), and what is left is shorter.
use lib.ListN.{length}
use Rattle.gather.specs.Walks.{known_strings}
use Rattle.search.specs.Asks.{asks}
use Rattle.search.specs.Searches.{SuffixesFound}
use Rattle.search.proofs.Finding.{Going}
use Rattle.search.proofs.walk.suffixes.Given as goal

abbrev pub invariant-loop-suffix : goal.invariant-loop-suffix
invariant-loop-suffix l =
    Going (SuffixesFound (asks l.q) (known_strings l.known l.initial.key) l.body) (SuffixesFound (asks l.q) (known_strings l.known l.initial.key) l.t) l.known l.body l.t l.initial.output l.output l.initial.key l.key 0

abbrev pub decreases-loop-suffix : goal.decreases-loop-suffix
decreases-loop-suffix l = length l.t
