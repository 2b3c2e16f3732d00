-- The places of a node lie in the bytes, and what stands below it and behind it is shorter.
use lib.ListN.{length}
use Rattle.trie_vectors.proofs.+draw.Given as goal

abbrev pub decreases-draw : goal.decreases-draw
decreases-draw l = length l.t.now
