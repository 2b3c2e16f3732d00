-- What stands behind the front moves on by as many bytes as the new front has more.
use native.Mathlib.Omega.{arith}
use Prim.Native.Nat.{◌-◌}
use mathlib.Core.Path.{refl}
use Rattle.trie_write.proofs.Inserting.{inserted}
use Rattle.trie_write.proofs.insert.replace_front.Goals as goal

pub returns : goal.returns
returns c =
    let a = c.args in
    inserted a.s.now _ _ a.at _ a.body (a.used - a.body) _ c.move_within.ensures c.copy_from.ensures refl (omega arith) (omega arith)
