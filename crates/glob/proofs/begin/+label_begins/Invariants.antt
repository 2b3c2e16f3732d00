-- The proof of the cycle of calls {label_begins}. The measure is the pattern's bytes left.
use lib.ListN.{length}
use Rattle.glob.proofs.begin.+label_begins.Given as goal

abbrev pub decreases-label_begins : goal.decreases-label_begins
decreases-label_begins l = length l.p.now
