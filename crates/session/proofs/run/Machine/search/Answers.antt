-- The rows where the search was accepted, and the reply.
use mathlib.Core.Path.{refl}
use native.Mathlib.Omega.{arith}
use Rattle.store.proofs.Said.{refused_some}
use Rattle.session.proofs.Said.{same_line}
use Rattle.session.proofs.Running.{room_there, ran_refused, ran_accepted}
use Rattle.session.proofs.run.Machine.search.Goals as goal

pub print_rows-at-requires : goal.print_rows-at-requires
print_rows-at-requires c =
    let r = room_there c.in-Ok.ensures refl in
    (omega (arith, r, c.search.auto.answer), omega (arith, r, c.search.auto.answer))

pub print_reply-self-requires : goal.print_reply-self-requires
print_reply-self-requires c =
    let r = room_there c.in-Ok.ensures refl in
    omega (arith, r, c.search.auto.answer, c.print_rows-at.ensures.upper_bound, c.print_rows-at.auto.out)

pub returns-in-Ok-clause-ran : goal.returns-in-Ok-clause-ran
returns-in-Ok-clause-ran c = ran_accepted (omega arith) (omega arith) c.in-Ok.ensures refl c.print_rows-at.ensures.wrote (same_line c.from.ensures c.print_reply-self.ensures)

pub returns-in-Err-clause-ran : goal.returns-in-Err-clause-ran
returns-in-Err-clause-ran c =
    ran_refused (omega arith) (omega arith) c.in-Err.ensures (refused_some c.in-Err.refusal) (same_line c.from-in-Err.ensures c.print_reply-self-in-Err.ensures)
