-- The steps behind the known bytes, each as wide as the values that begin with as many bytes.
use Rattle.entries.specs.Query.{asked}
use Rattle.value_range.proofs.Ranges.{spans}
use Rattle.value_range.proofs.value.span_behind.Goals as goal

pub returns : goal.returns
returns c =
    let a = c.args in
    λ pattern. spans (asked pattern a.range.from a.range.to) a.known.now a.n _ _ c.requires (rw c.lowest.ensures at c.steps.ensures)
