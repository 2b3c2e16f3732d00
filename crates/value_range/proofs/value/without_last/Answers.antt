-- A shift by whole bytes.
use mathlib.Core.Path.{◌∙◌}
use native.Mathlib.Omega.{arith}
use Rattle.value_range.proofs.Ranges.{shifted}
use Rattle.value_range.proofs.value.without_last.Goals as goal

pub returns : goal.returns
returns c = c.unwrap_or.ensures ∙ shifted c.args.x c.args.n _ (omega arith) c.requires c.checked_shr.ensures
