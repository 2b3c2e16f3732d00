-- The chunks read are fed in turn.
use Rattle.session.specs.Stands.{state_of}
use Rattle.session.specs.Whole.{FedSome}
use Rattle.fieldlog.proofs.feed_all.Given as goal

abbrev pub invariant-loop : goal.invariant-loop
invariant-loop l = FedSome (state_of l.initial.session) (state_of l.session)
