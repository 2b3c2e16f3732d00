-- Both tests, and then the writing.
use mathlib.Core.Path.{sym, ◌∙◌}
use Rattle.book.proofs.Front.{within}
use Rattle.store.proofs.Numbers.{refuses_5, refuses_6, accepts}
use Rattle.store.proofs.setup.prepare.Goals as goal

pub returns-then-not-in_limits : goal.returns-then-not-in_limits
returns-then-not-in_limits c = refuses_5 _ _ _ _ (sym c.in_limits.ensures ∙ c.if-not-in_limits.true)

pub invariant_of-front : goal.invariant_of-front
invariant_of-front c =
    let w = within c.args.m c.args.l c.args.tau (sym c.in_limits.ensures ∙ c.if-not-in_limits.false) in
    record { m_high = w.m_high; l_high = w.l_high }

pub returns-then-store-needed : goal.returns-then-store-needed
returns-then-store-needed c = refuses_6 _ _ _ _ _ (sym c.in_limits.ensures ∙ c.if-not-in_limits.false) c.needed.ensures c.if-store-needed.true

pub returns : goal.returns
returns c = accepts _ _ _ _ _ _ (sym c.in_limits.ensures ∙ c.if-not-in_limits.false) c.needed.ensures c.if-store-needed.false c.write_fresh.ensures
