-- After i turns i zeros are laid over.
use Prim.Native.Nat.{◌≤◌}
use mathlib.Core.Path.{◌≡◌}
use lib.ListN.{length, replicate}
use Rattle.buffer.specs.Splice.{splice}
use Rattle.buffer.proofs.moves.clear.Given as goal

abbrev pub invariant-loop-i : goal.invariant-loop-i
invariant-loop-i l = (l.i ≤ l.n) × (length l.s ≡ length l.initial.s) × (l.s ≡ splice l.initial.s l.at (replicate l.i 0))
