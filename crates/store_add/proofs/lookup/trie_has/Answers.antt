-- By the bytes of that trie.
use Rattle.store_add.proofs.Looking.{in_part}
use Rattle.store_add.proofs.lookup.trie_has.Goals as goal

pub returns : goal.returns
returns c = in_part _ _ _ _ c.args.k _ _ c.requires c.trie.ensures c.contains.ensures
