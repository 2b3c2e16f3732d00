-- The first empty level is filled, or nothing is done.
use Rattle.store_overflow.proofs.Overflowing.{overflowed, unchanged}
use Rattle.store_overflow.proofs.overflow.overflow.Goals as goal

pub returns-in-Some : goal.returns-in-Some
returns-in-Some c = overflowed _ _ _ _ _ _ c.in-Some.j c.in-Some.ensures c.requires.1 c.fill_level.ensures

pub returns-in_default : goal.returns-in_default
returns-in_default c = unchanged _ _ _ _ _ _ c.in_default.ensures
