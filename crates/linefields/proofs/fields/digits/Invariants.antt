-- What the bytes that are left make of the number so far is what all bytes make of 0.
use Prim.Native.Nat.{◌^◌, ◌<◌}
use mathlib.Core.Path.{◌≡◌}
use lib.ListN.{drop}
use Rattle.linefields.specs.Fields.{number_from}
use Rattle.linefields.proofs.fields.digits.Given as goal

abbrev pub invariant-loop-b : goal.invariant-loop-b
invariant-loop-b l = record { fits : l.n < 2 ^ 64; same : number_from l.n (drop l.b-index l.s) ≡ number_from 0 l.s }
