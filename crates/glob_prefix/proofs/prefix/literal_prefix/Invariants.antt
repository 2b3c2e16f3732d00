-- `glob_prefix::prefix::literal_prefix` meets its contract: label by label, `Led`, and the labels left are those of the iterator.
use mathlib.Core.Path.{◌≡◌}
use lib.ListN.{drop}
use Rattle.glob.specs.Labels.{labels_of}
use Rattle.glob_prefix.proofs.Leading.{Led}
use Rattle.glob_prefix.proofs.prefix.literal_prefix.Given as goal

abbrev pub invariant-loop-label : goal.invariant-loop-label
invariant-loop-label l = Led l.pattern l.a × (labels_of (drop l.a l.pattern) ≡ labels_of l.label-iterator.bytes.now)
