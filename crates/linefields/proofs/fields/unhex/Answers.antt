-- Each byte is that of its two digits.
use native.Mathlib.Omega.{arith}
use native.Mathlib.Nat.{zero-add}
use Prim.Native.Nat.{ℕ, ◌+◌, ◌*◌}
use lib.ListN.{get_or}
use Rattle.std.proofs.Common.{rules}
use Rattle.linefields.specs.Fields.{hex_value}
use Rattle.linefields.proofs.Hex.{unhex_each, made}
use Rattle.linefields.proofs.fields.unhex.Goals as goal

pub returns : goal.returns
returns c =
    let s = c.args.digits.now in
    let out = c.from_fn.ensures.items in
    let byte : ℕ → ℕ = λ i. hex_value (get_or s (2 * i) 0) * 16 + hex_value (get_or s (2 * i + 1) 0) in
    unhex_each s c.from_fn.result (omega (arith, out.long, c.told-digits))
    (λ i h. rw zero-add at (made _ _ byte (λ i y q k. search rules) c.from_fn.result 0 20 i out.each (omega (arith, out.long))))
