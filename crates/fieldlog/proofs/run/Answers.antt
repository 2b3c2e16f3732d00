-- All is fed to the first state, and the end to the last one.
use mathlib.Core.Path.{◌≡◌, subst}
use Rattle.session.specs.Keeps.{State}
use Rattle.session.specs.Whole.{FedSome}
use Rattle.fieldlog.proofs.run.Goals as goal

fed_from : {s t after : State} → s ≡ t → FedSome s after → FedSome t after
fed_from {after = after} e f = subst (λ (s : State). FedSome s after) e f

pub returns : goal.returns
returns c = record { last = _; fed = fed_from c.requires c.feed_all.ensures; ends = c.feed_end.ensures.fed }
