-- `glob_prefix::prefix::literal_prefix` meets its contract: label by label, `Led`, and the labels left are those of the iterator.
use mathlib.Core.Path.{sym, ◌∙◌}
use Rattle.glob_prefix.proofs.Leading.{stop_inside, led_on}
use Rattle.glob_prefix.proofs.prefix.literal_prefix.Goals as goal

pub returns-then-n-label : goal.returns-then-n-label
returns-then-n-label c =
    stop_inside c.args.pattern.now c.in-Some.label.now _ c.loop-label.a _ c.loop-label.invariant.0 (c.loop-label.invariant.1 ∙ c.in-Some.ensures.steps) (sym c.is_deep.ensures ∙ c.if-is_deep.false)
    c.plain_length-n.ensures

pub loop-label-preserved : goal.loop-label-preserved
loop-label-preserved c =
    led_on c.args.pattern.now c.in-Some.label.now _ c.loop-label.a _ c.loop-label.invariant.0 (c.loop-label.invariant.1 ∙ c.in-Some.ensures.steps) (sym c.is_deep.ensures ∙ c.if-is_deep.false)
    c.plain_length-n.ensures c.if-n-label.false
