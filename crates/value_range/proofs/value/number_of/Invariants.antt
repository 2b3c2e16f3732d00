-- One byte more in each turn.
use Prim.Native.Nat.{◌^◌, ◌<◌}
use mathlib.Core.Path.{◌≡◌}
use lib.ListN.{take}
use Rattle.buffer.specs.Numbers.{number}
use Rattle.value_range.proofs.value.number_of.Given as goal

abbrev pub invariant-loop-b : goal.invariant-loop-b
invariant-loop-b l = (l.x ≡ number (take l.b-index l.s)) × (l.x < 256 ^ l.b-index)
