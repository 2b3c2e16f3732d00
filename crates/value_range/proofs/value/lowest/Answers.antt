-- The bytes known as a number, shifted up.
use native.Mathlib.Omega.{arith}
use mathlib.Core.Path.{◌∙◌}
use Rattle.rows.proofs.Words.{all_bytes}
use Rattle.value_range.proofs.Ranges.{lowest_shifted}
use Rattle.value_range.proofs.value.lowest.Goals as goal

pub returns : goal.returns
returns c =
    c.unwrap_or.ensures
    ∙ lowest_shifted c.args.known.now c.number_of.result c.checked_shl.result (all_bytes c.args.known.now (λ i. omega (arith, c.type_inv.known i))) c.requires c.number_of.ensures c.checked_shl.ensures
