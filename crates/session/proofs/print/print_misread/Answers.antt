-- Number 12, and nothing changed.
use Rattle.session.proofs.Running.{ran_misread}
use Rattle.session.proofs.print.print_misread.Goals as goal

pub returns : goal.returns
returns c = λ store. ran_misread c.print_reply.ensures
