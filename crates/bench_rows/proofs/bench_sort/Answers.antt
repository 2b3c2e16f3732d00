-- The two tests are what `sort` requires.
use native.Mathlib.Omega.{arith}
use native.Mathlib.Nat.{div-mul-le_self, mul-le-mul_right}
use Prim.Native.Nat.{◌/◌, ◌≤◌}
use lib.ListN.{length}
use Rattle.bench_rows.proofs.bench_sort.Goals as goal

pub sort-requires : goal.sort-requires
sort-requires c =
    let a = c.args in
    let h : a.n ≤ length a.s.now / a.width = omega arith in
    (omega arith, omega (arith, mul-le-mul_right a.width h, div-mul-le_self (length a.s.now) a.width))
