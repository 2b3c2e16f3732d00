-- `glob::split::bytes_before` meets its contract: a place that is not found is the end.
use Rattle.std.proofs.Common.{rules, tests, ◌==◌, ◌∙◌}
use Rattle.std.proofs.lemmas.Iterator.{YieldsList-from_slice}
use Rattle.std.proofs.lemmas.Iterator.Search.{position_from_yields_List}
use Rattle.glob.proofs.Places.{position_or_end}
use Rattle.glob.proofs.split.bytes_before.Goals as goal

pub returns-clause-value : goal.returns-clause-value
returns-clause-value c =
    let s = c.args.s.now in
    let found = position_from_yields_List (λ b. b == c.args.c) _ _ c.position.result c.position.ensures.ran (YieldsList-from_slice s c.iter.ensures.rest) (λ x b q k. search (rules, tests)) in
    c.unwrap_or.ensures ∙ position_or_end (λ b. b == c.args.c) s c.position.result found
