-- `matcher::reach::reach` meets its contract: bytes that begin no path are a mismatch.
use mathlib.Core.Path.{sym, ◌∙◌}
use Rattle.matcher.proofs.Decided.{reached, reach_unlike}
use Rattle.matcher.proofs.reach.reach.Goals as goal

pub returns : goal.returns
returns c =
    let a = c.args in
    reached a.pattern.now a.known.now _ (sym (reach_unlike a.pattern.now a.known.now (sym c.is_first.ensures ∙ c.if-is_first.false)))
