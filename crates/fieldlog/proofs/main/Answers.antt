-- A new session has no line begun, and the store that it is given.
use Rattle.fieldlog.proofs.main.Goals as goal

pub run-requires : goal.run-requires
run-requires c = rw (c.new-session.ensures.begun, c.new-session.ensures.store)
