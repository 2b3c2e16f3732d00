-- No line, the line that is handed over, or one that is too long.
use Rattle.session.proofs.Feeding.{ran_none, ran_one}
use Rattle.session.proofs.feed.Session.carry_out.Goals as goal

pub returns-in_default-clause-ran : goal.returns-in_default-clause-ran
returns-in_default-clause-ran c = rw c.in_default.is ran_none

pub returns-in-Line-clause-ran : goal.returns-in-Line-clause-ran
returns-in-Line-clause-ran c = rw (c.in-Some.is, c.in-Line.is) (ran_one (rw c.line.ensures at c.run.ensures.ran))

pub returns-in-Long-clause-ran : goal.returns-in-Long-clause-ran
returns-in-Long-clause-ran c = rw (c.in-Some.is, c.in-Long.is) (ran_one c.misread.ensures.ran)
