-- What is left is shorter.
use lib.ListN.{length}
use Rattle.trie_vectors.proofs.print_suffixes.Given as goal

abbrev pub decreases-loop-suffix : goal.decreases-loop-suffix
decreases-loop-suffix l = length l.b
