-- One byte more in each turn.
use native.Mathlib.Omega.{arith}
use mathlib.Core.Path.{sym}
use Rattle.value_range.proofs.Ranges.{number_none, number_more, number_room, number_fits}
use Rattle.value_range.proofs.value.number_of.Goals as goal

pub loop-b-init : goal.loop-b-init
loop-b-init c = (number_none, omega arith)

pub overflow_mul-x : goal.overflow_mul-x
overflow_mul-x c = let l = c.loop-b in omega (arith, number_fits l.x l.b-index l.invariant.1 (omega arith))

pub loop-b-preserved : goal.loop-b-preserved
loop-b-preserved c =
    let l = c.loop-b in
    (rw (l.invariant.0, c.from.ensures) (sym (number_more c.args.s.now l.b-index (omega arith))), number_room l.x _ l.b-index l.invariant.1 (omega arith))
