-- The slot is made where the lengths are those of a value and a path.
use native.Mathlib.Omega.{arith}
use mathlib.Core.Path.{refl, sym}
use Rattle.gather.proofs.Filling.{filled_has, unfilled}
use Rattle.gather.proofs.key.compose.Goals as goal

pub returns-then-known-suffix-ne-VALUE_SIZE-clause-value : goal.returns-then-known-suffix-ne-VALUE_SIZE-clause-value
returns-then-known-suffix-ne-VALUE_SIZE-clause-value c =
    let a = c.args in
    let y = a.suffix.now in
    let x = a.known in
    let long = c.told-key in
    let either = c.then-known-suffix-ne-VALUE_SIZE.either in
    sym (unfilled a.key.now y.value.now y.path.now y.reference.now x.value x.path (omega arith) (omega arith) (omega arith) (λ v one p. grind arith))

pub returns-clause-value : goal.returns-clause-value
returns-clause-value c =
    let a = c.args in
    let y = a.suffix.now in
    let x = a.known in
    let long = c.told-key in
    sym (filled_has a.key.now y.value.now y.path.now y.reference.now x.value x.path _ (omega arith) c.if-known-suffix-ne-VALUE_SIZE.false (omega arith) refl (omega arith) (omega arith))
