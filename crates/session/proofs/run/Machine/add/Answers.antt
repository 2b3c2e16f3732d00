-- The reply that the call's result says, printed.
use native.Mathlib.Omega.{arith}
use Rattle.store_add.specs.Said.{added}
use Rattle.store_add.proofs.Accepted.{is_typed}
use Rattle.session.specs.Sizes.{store_size}
use Rattle.session.proofs.Said.{said_line}
use Rattle.session.proofs.Running.{ran_add}
use Rattle.session.proofs.run.Machine.add.Goals as goal

pub returns-clause-ran : goal.returns-clause-ran
returns-clause-ran c =
    let written = said_line added _ c.add.result c.from-reply.ensures c.print_reply-self.ensures in
    ran_add (omega arith) c.add.auto.store written _ _ _ (is_typed store_size _ (omega arith) (λ i. omega (arith, c.fits-reference i))) c.add.ensures
