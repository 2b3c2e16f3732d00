-- The labels up to n are shared, and those that begin there are alike up to i.
use Rattle.std.proofs.Common.{◌≡◌, ◌≤◌, length}
use Rattle.glob.specs.Inner.{SharedLabels}
use Rattle.glob.proofs.Shared.{Run}
use Rattle.glob.proofs.fit.equal_labels.Given as goal

abbrev pub invariant-loop-i : goal.invariant-loop-i
invariant-loop-i l = SharedLabels l.pattern l.path l.n × ((length l.path ≡ 0 → ⊥) → (l.i ≤ length l.path) × Run l.pattern l.path l.n l.i)
