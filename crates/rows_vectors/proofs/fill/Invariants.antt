-- The number stays small.
use Prim.Native.Nat.{◌<◌}
use Rattle.rows_vectors.proofs.fill.Given as goal

abbrev pub invariant-loop-record : goal.invariant-loop-record
invariant-loop-record l =
    (goal.iterator-loop-record).can_next l.record-iterator × (goal.iterator-loop-record).is_finite l.record-iterator × (l.random.0 < 2147483648)
