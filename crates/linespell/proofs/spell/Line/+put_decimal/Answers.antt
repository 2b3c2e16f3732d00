use native.Mathlib.Omega.{arith}
use mathlib.Core.Path.{◌≡◌, ap}
use lib.ListN.{length}
use Prim.Native.Nat.{◌+◌, ◌/◌}
use Rattle.linespell.specs.Spelling.{decimal}
use Rattle.linespell.proofs.Writing.{put_then}
use Rattle.linespell.proofs.Decimals.{decimal_low, decimal_high, decimal_shorter}
use Rattle.linespell.proofs.spell.Line.+put_decimal.Goals as goal

pub put_byte-requires : goal.put_byte-requires
put_byte-requires t c =
    let l : length (decimal c.args.n) ≡ 1 = ap length (decimal_low c.args.n c.if-n-lt10.true) in
    omega arith

pub returns-then-n-lt10 : goal.returns-then-n-lt10
returns-then-n-lt10 t c = rw (decimal_low c.args.n c.if-n-lt10.true) c.put_byte.ensures

pub put_decimal-requires : goal.put_decimal-requires
put_decimal-requires t c =
    let n = c.args.n in
    let l : length (decimal n) ≡ length (decimal (n / 10)) + 1 = decimal_shorter n (omega arith) (omega arith) in
    (omega arith, omega arith)

pub put_byte-requires-2 : goal.put_byte-requires-2
put_byte-requires-2 t c =
    let n = c.args.n in
    let l : length (decimal n) ≡ length (decimal (n / 10)) + 1 = decimal_shorter n (omega arith) (omega arith) in
    omega arith

pub returns : goal.returns
returns t c = rw (decimal_high c.args.n (omega arith) (omega arith)) (put_then c.put_decimal.ensures c.put_byte-2.ensures)
