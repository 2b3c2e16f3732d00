-- In both dimensions.
use mathlib.Core.Path.{sym, ◌∙◌}
use Rattle.trie_read.proofs.Walking.{goes_on, goes_off}
use Rattle.trie_read.proofs.lookup.agrees.Goals as goal

pub returns-then-begins : goal.returns-then-begins
returns-then-begins c = c.begins-then-begins.ensures ∙ sym (goes_on _ _ _ _ (sym c.begins.ensures ∙ c.if-begins.true))

pub returns-else-begins : goal.returns-else-begins
returns-else-begins c = c.if-begins.false ∙ sym (goes_off _ _ _ _ (sym c.begins.ensures ∙ c.if-begins.false))
