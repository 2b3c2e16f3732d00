-- `all` tests each byte for a hex digit.
use Rattle.std.proofs.Common.{rules}
use native.Mathlib.Omega.{arith}
use Rattle.std.proofs.lemmas.Grind.{common_steps}
use Rattle.std.proofs.lemmas.Iterator.{YieldsList-from_slice}
use Rattle.std.proofs.lemmas.Iterator.Search.{all_from_yields_List}
use mathlib.Core.Path.{sym, ◌∙◌}
use Rattle.linefields.specs.Fields.{hex_digit, is_reference}
use Rattle.linefields.proofs.Scan.{reference_is, all_is, worth_there}
use Rattle.linefields.proofs.fields.is_reference.Goals as goal

pub returns-then-s-eq-REFERENCE_DIGITS : goal.returns-then-s-eq-REFERENCE_DIGITS
returns-then-s-eq-REFERENCE_DIGITS c =
    let s = c.args.s.now in
    let e = all_from_yields_List hex_digit _ _ c.all.result c.all.ensures.ran (YieldsList-from_slice s (search rules)) (λ x b q k. search (rules, worth_there)) in
    e ∙ all_is hex_digit s ∙ sym (reference_is s (search rules))

pub returns-else-s-eq-REFERENCE_DIGITS : goal.returns-else-s-eq-REFERENCE_DIGITS
unfolding is_reference
returns-else-s-eq-REFERENCE_DIGITS c = grind (arith, common_steps)
