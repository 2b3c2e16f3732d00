-- The reply that the call's result says, printed.
use native.Mathlib.Omega.{arith}
use Rattle.store.specs.Said.{done}
use Rattle.session.proofs.Said.{said_line}
use Rattle.session.proofs.Running.{ran_setup}
use Rattle.session.proofs.run.Machine.setup.Goals as goal

pub returns-clause-ran : goal.returns-clause-ran
returns-clause-ran c = ran_setup (omega arith) c.setup.auto.store (said_line done _ c.setup.result c.from-reply.ensures c.print_reply-self.ensures) _ _ _ c.setup.ensures
