-- What is printed needs no store, and none changes.
use Rattle.session.proofs.run.Machine.misread.Goals as goal

pub returns-clause-ran : goal.returns-clause-ran
returns-clause-ran c = c.print_misread-self.ensures c.args.self.now.store.now
