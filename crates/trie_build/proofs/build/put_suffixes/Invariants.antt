-- Suffix by suffix.
use lib.ListN.{drop}
use Rattle.trie_build.specs.Nodes.{rests_bytes}
use Rattle.trie_build.proofs.Wrote.{Wrote}
use Rattle.trie_build.proofs.build.put_suffixes.Given as goal

abbrev pub invariant-loop-slot : goal.invariant-loop-slot
invariant-loop-slot l =
    Wrote l.initial.out l.at (rests_bytes l.shared.value l.shared.path (drop l.slot-index l.set)) (rests_bytes l.shared.value l.shared.path l.set) l.out l.end
