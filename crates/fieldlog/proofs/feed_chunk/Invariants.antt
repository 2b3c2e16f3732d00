-- The bytes so far are fed.
use lib.ListN.{take}
use Rattle.session.specs.Stands.{state_of}
use Rattle.session.specs.Whole.{FedBytes}
use Rattle.fieldlog.proofs.feed_chunk.Given as goal

abbrev pub invariant-loop-byte : goal.invariant-loop-byte
invariant-loop-byte l = FedBytes (state_of l.initial.session) (take l.byte-index l.chunk) (state_of l.session)
