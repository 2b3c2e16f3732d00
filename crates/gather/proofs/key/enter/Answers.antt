-- Two writes behind what is known.
use native.Mathlib.Omega.{arith}
use mathlib.Core.Path.{refl}
use Rattle.gather.proofs.Filling.{entered_kept, entered_joins}
use Rattle.gather.proofs.key.enter.Goals as goal

pub returns : goal.returns
returns c =
    let a = c.args in
    let y = a.node.now in
    let x = a.known in
    let fits = c.told-key in
    record {
      is =
          record {
            value_is = refl;
            path_is = refl;
            joins =
                rw (c.copy_from-2.ensures, c.copy_from.ensures)
                (entered_joins a.key.now y.value.now y.path.now x.value x.path _ _ (omega arith) refl refl (omega arith) (omega arith));
          };
      kept =
          rw (c.copy_from-2.ensures, c.copy_from.ensures)
          (entered_kept a.key.now y.value.now y.path.now x.value x.path _ _ (omega arith) refl refl (omega arith) (omega arith));
    }
