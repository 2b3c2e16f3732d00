-- One trie behind those before it.
use Rattle.store_overflow.proofs.gathering.+gather_first.Given as goal

abbrev pub decreases-gather_first : goal.decreases-gather_first
decreases-gather_first l = l.k
