-- How long the leaf is.
use Rattle.trie_write.proofs.NewLeaf.{length_new_leaf}
use Rattle.trie_write.proofs.insert.NewLeafPart.put.Goals as goal

pub returns-clause-long : goal.returns-clause-long
returns-clause-long c = let k = c.args.key.now in length_new_leaf k.value.now k.path.now k.reference.now k.twenty
