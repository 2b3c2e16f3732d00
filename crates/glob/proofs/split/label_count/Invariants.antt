-- The labels counted, and those from here on, are all labels.
use Rattle.std.proofs.Common.{◌≡◌, ◌+◌, ◌≤◌, length, drop}
use Rattle.glob.specs.Labels.{labels_of}
use Rattle.glob.proofs.split.label_count.Given as goal

abbrev pub invariant-loop-b : goal.invariant-loop-b
invariant-loop-b l = (l.n ≤ l.b-index) × (l.n + length (labels_of (drop l.b-index l.s)) ≡ length (labels_of l.s))
