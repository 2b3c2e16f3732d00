-- The byte is pushed, and the line that it ends is carried out.
use mathlib.Core.Path.{refl}
use Rattle.logline.proofs.Feeding.{pushed_within}
use Rattle.session.proofs.feed.Session.feed_byte.Goals as goal

pub carry_out-requires : goal.carry_out-requires
carry_out-requires c = rw c.push-cut.ensures.pushed_as.event_is (pushed_within _ 512 refl _)
