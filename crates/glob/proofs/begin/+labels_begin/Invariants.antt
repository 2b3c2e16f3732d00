-- The proof of the cycle of calls {labels_begin}. The measure is the pattern's bytes left.
use lib.ListN.{length}
use Rattle.glob.proofs.begin.+labels_begin.Given as goal

abbrev pub decreases-labels_begin : goal.decreases-labels_begin
decreases-labels_begin l = length l.pattern.bytes.now
