-- One byte too many.
use mathlib.Core.Path.{sym, ◌∙◌}
use lib.ListN.{length}
use borrow.Author.Tests.{eq-eqb}
use Rattle.buffer.proofs.Tests.{not_both}
use Rattle.value_range.proofs.Ranges.{too_long}
use Rattle.search.proofs.step.value_more.Goals as goal

pub returns : goal.returns
returns c =
    let a = c.args in
    λ pattern l. too_long pattern a.known.now a.s.now _ _ c.if-known-lt-VALUE_SIZE.false (λ e. not_both (eq-eqb (length a.s.now) 0 e) (sym c.is_empty.ensures ∙ c.if-is_empty.false))
