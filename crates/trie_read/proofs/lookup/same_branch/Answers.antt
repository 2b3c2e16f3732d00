-- The two branching bytes.
use Rattle.trie_theory.specs.SmallTrie.{meets}
use Rattle.trie_read.proofs.lookup.same_branch.Goals as goal

pub returns : goal.returns
unfolding meets
returns c = rw (c.branch_byte.ensures, c.branch_byte-2.ensures)
