-- A hex digit is worth less than 16.
use native.Mathlib.Omega.{arith}
use mathlib.Core.Path.{◌≡◌, ap, ◌∙◌}
use mathlib.Core.Bool.{cond}
use Rattle.std.proofs.Common.{unwrap_or, ℕ, Option, Some, None}
use Rattle.linefields.specs.Fields.{hex_digit, hex_value}
use Rattle.linefields.proofs.Scan.{hex_worth}
use Rattle.linefields.proofs.fields.hex_byte.Goals as goal

worth : (b v : ℕ) (o : Option ℕ) → v ≡ unwrap_or o 0 → o ≡ cond (hex_digit b) (Some (hex_value b)) None → v ≡ hex_value b
worth b v o e f = e ∙ ap (λ (o : Option ℕ). unwrap_or o 0) f ∙ (hex_worth b).0

high : (c : goal.After-unwrap_or) → c.unwrap_or.result ≡ hex_value c.args.high
high c = worth _ _ _ c.unwrap_or.ensures c.hex_value.ensures

low : (c : goal.After-unwrap_or-2) → c.unwrap_or-2.result ≡ hex_value c.args.low
low c = worth _ _ _ c.unwrap_or-2.ensures c.hex_value-2.ensures

pub overflow_mul-result : goal.overflow_mul-result
overflow_mul-result c = omega (arith, high c, hex_worth c.args.high)

pub overflow_add-result : goal.overflow_add-result
overflow_add-result c = omega (arith, worth _ _ _ c.unwrap_or.ensures c.hex_value.ensures, low c, hex_worth c.args.high, hex_worth c.args.low)

pub returns : goal.returns
returns c = rw (worth _ _ _ c.unwrap_or.ensures c.hex_value.ensures, low c)
