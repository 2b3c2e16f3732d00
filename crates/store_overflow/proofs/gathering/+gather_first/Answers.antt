-- One trie behind those before it.
use native.Mathlib.Omega.{arith}
use Prim.Native.Nat.{◌-◌}
use Rattle.store_overflow.proofs.FirstTries.{gathered_none, gathered_more}
use Rattle.store_overflow.proofs.gathering.+gather_first.Goals as goal

pub returns-then-k-eq0 : goal.returns-then-k-eq0
returns-then-k-eq0 t c = gathered_none _ _ _ _ _ _ c.if-k-eq0.true

pub returns : goal.returns
returns t c =
    let p = c.requires in
    let some = c.if-k-eq0.false in
    let part = c.trie_range-place.ensures in
    let behind = p.places.2 (c.args.k - 1) (omega (arith, some)) in
    gathered_more _ _ _ _ _ _ _ _ _ _ _ _ some part c.gather_first-n.ensures c.gather.ensures p.places.0 (omega (arith, part.inside, behind)) p.fits
