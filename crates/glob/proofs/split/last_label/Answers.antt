-- `glob::split::last_label` meets its contract: behind the last `/` there is none.
use Rattle.std.proofs.Common.{rules, ◌+◌}
use Rattle.glob.proofs.Places.{up_all}
use Rattle.glob.proofs.split.last_label.Goals as goal

pub returns-in_err-rposition : goal.returns-in_err-rposition
returns-in_err-rposition c = rw c.from_residual.ensures (up_all c.args.s.now 0 (search rules) (search rules))

pub returns : goal.returns
returns c = (up_all c.args.s.now (c.in_ok-rposition.field-0 + 1) (search rules) (search rules), search rules, search rules)
