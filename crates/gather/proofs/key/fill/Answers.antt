-- Five writes make the slot.
use native.Mathlib.Omega.{arith}
use mathlib.Core.Path.{refl}
use Rattle.gather.proofs.Filling.{filled}
use Rattle.gather.proofs.key.fill.Goals as goal

pub returns : goal.returns
returns c =
    let a = c.args in
    let y = a.suffix.now in
    let x = a.known in
    let long = c.told-key in
    rw (c.clear.ensures, c.copy_from-3.ensures, c.copy_from-2.ensures, c.copy_from.ensures)
    (filled a.key.now y.value.now y.path.now y.reference.now x.value x.path _ (omega arith) (omega arith) (omega arith) refl (omega arith) (omega arith))
