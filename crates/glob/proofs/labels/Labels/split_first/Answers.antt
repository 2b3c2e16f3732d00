-- `glob::labels::Labels::split_first` meets its contract, by `first_law`.
use Rattle.glob.proofs.Cuts.{begun_next, first_law}
use Rattle.glob.proofs.labels.Labels.split_first.Goals as goal

pub invariant_of-result : goal.invariant_of-result
invariant_of-result c = record { begun = begun_next c.args.self.bytes.now 1 c.next_slash-a.result c.next_slash-a.ensures.0 }

pub returns : goal.returns
returns c = first_law c.args.self.bytes.now c.next_slash-a.result c.requires c.args.self.begun c.next_slash-a.ensures.0
