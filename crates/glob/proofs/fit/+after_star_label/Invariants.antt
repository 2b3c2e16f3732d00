-- The proof of the cycle of calls {after_star, label}. The measure is the pattern's bytes left, twice, and one more for `after_star`, which calls
-- `label` with the pattern that it is given. The invariant of the loop: `Trying`.
use Prim.Native.Nat.{◌+◌, ◌*◌}
use lib.ListN.{length}
use Rattle.glob.specs.Fit.{fits_label}
use Rattle.glob.proofs.Parts.{back}
use Rattle.glob.proofs.Trials.{Trying, ahead}
use Rattle.glob.proofs.fit.+after_star_label.Given as goal

abbrev pub decreases-after_star : goal.decreases-after_star
decreases-after_star l = 2 * length l.p.now + 1

abbrev pub decreases-label : goal.decreases-label
decreases-label l = 2 * length l.p.now

abbrev pub invariant-after_star-loop-next : goal.invariant-after_star-loop-next
invariant-after_star-loop-next l = Trying (fits_label l.p) (length l.s) (back l.s) l.s l.next

abbrev pub decreases-after_star-loop-next : goal.decreases-after_star-loop-next
decreases-after_star-loop-next l = ahead (length l.s) l.next
