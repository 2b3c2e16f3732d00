-- Each turn leads to tries in which what is left of the key is looked for all the same (`Walk`), and what is left of the bytes is shorter.
use mathlib.Core.Path.{◌≡◌}
use lib.ListN.{length}
use Rattle.trie_theory.specs.Forest.{Forest}
use Rattle.trie_theory.specs.Encode.{Regular, encode}
use Rattle.trie_read.specs.Shape.{key_of}
use Rattle.trie_read.proofs.Walking.{Walk}
use Rattle.trie_read.proofs.lookup.contains.Given as goal

abbrev pub invariant-loop-node : goal.invariant-loop-node
invariant-loop-node l = (f : Forest) → Regular 2 f → l.tries ≡ encode f → Walk l.t l.v l.p l.reference l.above f (key_of l.value l.path l.reference)

abbrev pub decreases-loop-node : goal.decreases-loop-node
decreases-loop-node l = length l.t
