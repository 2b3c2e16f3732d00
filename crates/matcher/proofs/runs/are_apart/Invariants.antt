-- `matcher::runs::are_apart` meets its contract. The invariant: what holds from here on is what holds of the whole.
use mathlib.Core.Path.{◌≡◌}
use Prim.Native.Nat.{◌-◌, ◌≤◌}
use lib.ListN.{length, drop}
use Rattle.matcher.specs.Form.{apart}
use Rattle.matcher.proofs.runs.are_apart.Given as goal

abbrev pub invariant-loop-i : goal.invariant-loop-i
invariant-loop-i l = (l.i ≤ length l.s) × (apart l.mark l.s ≡ apart l.mark (drop l.i l.s))

abbrev pub decreases-loop-i : goal.decreases-loop-i
decreases-loop-i l = length l.s - l.i
