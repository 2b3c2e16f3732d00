-- The walk begins at no node, with nothing known.
use Rattle.search.proofs.Whole.{trie_searched}
use Rattle.search.proofs.walk.search_trie.Goals as goal

pub returns : goal.returns
returns c = trie_searched c.search_tries.ensures
