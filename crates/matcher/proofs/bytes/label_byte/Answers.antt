-- `matcher::bytes::label_byte` meets its contract: the table follows the rule.
use mathlib.Core.Path.{refl, ap, ◌∙◌}
use mathlib.Core.Bool.{false}
use lib.ListN.{get_or}
use borrow.Author.Rules.{rules}
use Rattle.matcher.specs.Bytes.{label_byte}
use Rattle.matcher.specs.declared.marks.TheConstants.{LABEL_BYTES}
use Rattle.matcher.proofs.Table.{marks_follow}
use Rattle.matcher.proofs.bytes.label_byte.Goals as goal

pub returns : goal.returns
unfolding label_byte
returns c = ap (λ i. get_or LABEL_BYTES i false) c.from.ensures ∙ (marks_follow LABEL_BYTES refl tt).are c.args.b (search rules)
