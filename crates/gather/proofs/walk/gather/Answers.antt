-- The walk begins with nothing known, and writes behind `out`.
use native.Mathlib.Omega.{arith}
use mathlib.Core.Path.{refl}
use lib.ListN.{length-take}
use borrow.Author.Rules.{rules}
use Rattle.gather.specs.Visits.{Visit}
use Rattle.gather.proofs.Gathering.{gathered, part_before}
use Rattle.gather.proofs.walk.gather.Goals as goal

pub returns : goal.returns
returns c =
    let cut = c.split_at_mut-tries.ensures in
    let w = c.walk.ensures.walked in
    let a = c.args in
    gathered w (part_before a.from a.to a.out a.s.now _ c.requires.0 c.requires.1 cut.front) (search rules) cut.back refl refl (search (rules, cut.front, w.same_reference))
    (omega (arith, c.min.ensures, w.put.count, length-take {A = Visit}))
