-- The chunks read are fed in turn.
use Rattle.session.proofs.Whole.{some_none, some_more}
use Rattle.fieldlog.proofs.feed_all.Goals as goal

pub loop-init : goal.loop-init
loop-init c = some_none

pub loop-preserved : goal.loop-preserved
loop-preserved c = some_more c.loop.invariant c.feed_chunk.ensures
