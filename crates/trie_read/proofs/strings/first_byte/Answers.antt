-- The first byte of a string, or 256.
use mathlib.Core.Path.{◌∙◌}
use Rattle.trie_read.proofs.Compare.{first_got, first_missing}
use Rattle.trie_read.proofs.strings.first_byte.Goals as goal

pub returns-in-Some : goal.returns-in-Some
returns-in-Some c = c.from.ensures ∙ first_got _ _ (rw c.in-Some.is at c.first.ensures.value)

pub returns-in-None : goal.returns-in-None
returns-in-None c = first_missing _ (rw c.in-None.is at c.first.ensures.value)
