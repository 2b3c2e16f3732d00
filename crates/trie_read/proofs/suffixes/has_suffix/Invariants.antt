-- The suffixes that are passed are not the key; what is left is shorter.
use mathlib.Core.Path.{◌≡◌}
use mathlib.Core.List.{List}
use Rattle.trie_theory.specs.Forest.{Key}
use Rattle.buffer.specs.Lists.{All}
use Rattle.trie_read.specs.Shape.{Fixed, key_of}
use Rattle.trie_read.specs.Suffixes.{suffixes_bytes}
use Rattle.trie_read.proofs.Among.{Among}
use Rattle.trie_read.proofs.suffixes.has_suffix.Given as goal

abbrev pub invariant-loop-suffix : goal.invariant-loop-suffix
invariant-loop-suffix l = (ts : List Key) → All Fixed ts → l.body ≡ suffixes_bytes ts → Among (key_of l.value l.path l.reference) l.suffix-iterator.0.now ts
