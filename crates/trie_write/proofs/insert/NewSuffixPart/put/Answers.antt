-- How long the suffix is.
use Rattle.trie_write.proofs.NewLeaf.{length_suffix_bytes}
use Rattle.trie_write.proofs.insert.NewSuffixPart.put.Goals as goal

pub returns-clause-long : goal.returns-clause-long
returns-clause-long c = let k = c.args.key.now in length_suffix_bytes k.value.now k.path.now k.reference.now k.twenty
