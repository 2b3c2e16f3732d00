-- An insertion by the law `inserted`.
use native.Mathlib.Omega.{arith}
use Prim.Native.Nat.{◌-◌}
use mathlib.Core.Path.{◌∙◌}
use Rattle.trie_write.proofs.Inserting.{inserted}
use Rattle.trie_write.proofs.insert.insert.Goals as goal

pub returns-clause-s_after : goal.returns-clause-s_after
returns-clause-s_after g c =
    let a = c.args in
    inserted a.s.now _ _ a.at _ a.at (a.used - a.at) _ c.move_within.ensures c.put.ensures.s_after (c.put.ensures.long ∙ omega (arith, c.size.ensures)) (omega arith) (omega arith)
