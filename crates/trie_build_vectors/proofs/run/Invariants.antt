-- Set by set.
use lib.ListN.{length}
use Rattle.trie_build_vectors.proofs.run.Given as goal

abbrev pub decreases-loop-behind : goal.decreases-loop-behind
decreases-loop-behind l = length l.rest
