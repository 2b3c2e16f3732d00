-- Powers of two, and the need of a store. Assumes nothing.
use Prim.Native.Nat.{ℕ, ◌*◌, ◌^◌, ◌≤◌}
use native.Mathlib.Omega.{arith}
use native.Mathlib.Nat.{mul-le-mul_right}
use lib.Pow.{pow_mono}

-- up to the eighth
pub power_most : (i : ℕ) → i ≤ 8 → 2 ^ i ≤ 256
power_most i h = pow_mono h

pub product_most : (m p : ℕ) → m ≤ 4096 → p ≤ 256 → 1024 * m * p ≤ 1073741824
product_most m p h k = let a : 1024 * m ≤ 4194304 = omega arith in let b : 1024 * m * p ≤ 4194304 * p = mul-le-mul_right p a in omega arith
