-- The key of the tries that a key of the code is. Assumes nothing: these are definitions.
use Rattle.trie_theory.specs.Forest.{Key}
use Rattle.trie_read.specs.Shape.{key_of}
use Rattle.trie_write.specs.declared.key.Key as Code

abbrev pub spelled : Code.Key → Key
spelled k = key_of k.value.now k.path.now k.reference.now
