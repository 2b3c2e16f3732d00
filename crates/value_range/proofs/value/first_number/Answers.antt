-- Eight bytes and a shift.
use mathlib.Core.Path.{◌∙◌}
use native.Mathlib.Omega.{arith}
use Rattle.rows.proofs.Words.{all_bytes}
use Rattle.value_range.proofs.Ranges.{number_shifted}
use Rattle.value_range.proofs.value.first_number.Goals as goal

pub returns : goal.returns
returns c =
    let a = c.args in
    c.without_last.ensures ∙ number_shifted a.s.now 0 a.n c.get64.result (all_bytes a.s.now (λ i. omega (arith, c.type_inv.s i))) (omega arith) (omega arith) c.get64.ensures
