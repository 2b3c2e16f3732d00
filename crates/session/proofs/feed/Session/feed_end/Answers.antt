-- The last line, where its 0A is missing, is carried out.
use mathlib.Core.Path.{refl}
use Rattle.logline.proofs.Feeding.{finished_within}
use Rattle.session.proofs.feed.Session.feed_end.Goals as goal

pub carry_out-requires : goal.carry_out-requires
carry_out-requires c = rw c.finish-cut.ensures.value (finished_within _ 512 refl)
