-- `glob::labels::Labels::new` meets its contract: what stands before the first `/` is of no label.
use Rattle.glob.proofs.Cuts.{skip_labels, begun_next}
use Rattle.glob.proofs.labels.Labels.new.Goals as goal

pub invariant_of-result : goal.invariant_of-result
invariant_of-result c = record { begun = begun_next c.args.s.now _ c.next_slash.result c.next_slash.ensures.0 }

pub returns : goal.returns
returns c = skip_labels c.args.s.now c.next_slash.result c.next_slash.ensures.0
