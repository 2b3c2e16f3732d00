-- Each number where it stands.
use Rattle.book.specs.Front.{front_of}
use Rattle.book.proofs.Front.{within, no_front}
use Rattle.store.proofs.Opening.{bad_limits}
use Rattle.store.proofs.front.Front.read.Goals as goal

pub returns-then-store-lt-FRONT_SIZE : goal.returns-then-store-lt-FRONT_SIZE
returns-then-store-lt-FRONT_SIZE c = no_front _ _ c.if-store-lt-FRONT_SIZE.true

pub returns-then-not-in_limits : goal.returns-then-not-in_limits
unfolding front_of
returns-then-not-in_limits c = bad_limits _ (front_of c.args.store.now) (cc)

pub invariant_of-result : goal.invariant_of-result
invariant_of-result c =
    let w = within c.get32-m.result c.get32-l.result c.get32-tau.result (cc) in
    record { m_high = w.m_high; l_high = w.l_high }

pub returns : goal.returns
unfolding front_of
returns c =
    (record { m_is = c.get32-m.ensures; l_is = c.get32-l.ensures; tau_is = c.get32-tau.ensures; held_is = c.get32.ensures }, c.if-store-lt-FRONT_SIZE.false, cc)
