-- The proof of the cycle of calls {descend, labels}. The measure is the bytes left of both, twice, and one more for `descend`, which calls `labels`
-- with the pattern that it is given. The invariant of the loop: `Trying`.
use Prim.Native.Nat.{◌+◌, ◌*◌}
use lib.ListN.{length}
use Rattle.std.proofs.Common.{IfSome}
use Rattle.glob.specs.Labels.{labels_of, Begun}
use Rattle.glob.specs.Fit.{fit_labels}
use Rattle.glob.proofs.Parts.{back}
use Rattle.glob.proofs.Trials.{Trying, ahead}
use Rattle.glob.proofs.fit.+descend_labels.Given as goal

abbrev pub decreases-descend : goal.decreases-descend
decreases-descend l = 2 * (length l.pattern.bytes.now + length l.path.bytes.now) + 1

abbrev pub decreases-labels : goal.decreases-labels
decreases-labels l = 2 * (length l.pattern.bytes.now + length l.path.bytes.now)

abbrev pub invariant-descend-loop-next : goal.invariant-descend-loop-next
invariant-descend-loop-next l =
    let s = l.path.bytes.now in
    Trying (fit_labels (labels_of l.pattern.bytes.now)) (length s) (λ i. labels_of (back s i)) (labels_of s) l.next × IfSome l.next (λ i. Begun (back s i))

abbrev pub decreases-descend-loop-next : goal.decreases-descend-loop-next
decreases-descend-loop-next l = ahead (length l.path.bytes.now) l.next
