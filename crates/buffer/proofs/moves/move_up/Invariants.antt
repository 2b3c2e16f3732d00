-- With i blocks to go those behind them have moved.
use Prim.Native.Nat.{◌+◌, ◌*◌, ◌≤◌, ◌-◌}
use mathlib.Core.Path.{◌≡◌}
use lib.ListN.{length}
use Rattle.buffer.specs.Splice.{splice, region}
use Rattle.buffer.proofs.moves.move_up.Given as goal

abbrev pub invariant-loop-i : goal.invariant-loop-i
invariant-loop-i l = let left = l.rest + l.i * 512 in
    (left ≤ l.n) × (length l.s ≡ length l.initial.s) × (l.s ≡ splice l.initial.s (l.to + left) (region l.initial.s (l.from + left) (l.n - left)))
