-- Gathered, put, merged, cleared.
use native.Mathlib.Omega.{arith}
use native.Mathlib.Numerals.{add-one}
use Rattle.store_overflow.proofs.LevelBytes.{fewer_short}
use Rattle.store_overflow.proofs.Filling.{Sized, sized, before_level, short_slots, filled}
use Rattle.store_overflow.specs.Entering.{entry_of}
use Rattle.store_overflow.proofs.overflow.fill_level.Goals.{After-level_size-size}
use Rattle.store_overflow.proofs.overflow.fill_level.Goals as goal

-- the most entries of the level
size : (c : After-level_size-size) → let a = c.args in Sized a.front.m a.front.l a.j c.level_size-size.result
size c = let p = c.requires in sized _ _ _ _ p.0 p.1 c.level_size-size.ensures.0 c.level_size-size.ensures.1

pub gather_first-n-requires : goal.gather_first-n-requires
gather_first-n-requires c =
    let p = c.requires in
    let z = size (goal.at.gather_first-n-requires c).After-level_size-size in
    record { places = (omega (arith, p.1), p.2, λ i h. before_level _ _ _ _ z i (omega arith)); fits = omega (arith, z.fits, z.some, p.2) }

pub put_slot-requires : goal.put_slot-requires
put_slot-requires c =
    let z = size (goal.at.put_slot-requires c).After-level_size-size in
    omega (arith, z.fits, z.some, c.gather_first-n.ensures.most, c.requires.2, c.gather_first-n.auto.s)

pub merge-requires : goal.merge-requires
merge-requires c =
    let a = c.args in
    let p = c.requires in
    let z = size (goal.at.merge-requires c).After-level_size-size in
    let g = c.gather_first-n.ensures in
    let e = a.entry.now in
    let short = short_slots _ _ a.front.tau a.j _ _ _ (entry_of e) e.short e.twenty z _ _ _ p.2 p.1 g c.put_slot.ensures in (
      omega (arith, g.most, z.some),
      z.most,
      omega (arith, z.fits, p.2, c.gather_first-n.auto.s, c.put_slot.auto.s),
      fewer_short _ _ _ (omega arith) short,
    )

pub clear-requires : goal.clear-requires
clear-requires c =
    omega (
      arith,
      (size (goal.at.clear-requires c).After-level_size-size).fits,
      c.requires.2,
      c.gather_first-n.auto.s,
      c.put_slot.auto.s,
      c.merge.auto.s,
    )

pub returns : goal.returns
returns c =
    let a = c.args in
    let p = c.requires in
    let z = size (goal.at.returns c).After-level_size-size in
    let e = a.entry.now in
    filled _ _ a.front.tau a.j _ _ _ (entry_of e) e.short e.twenty z _ _ _ p.2 p.1 c.gather_first-n.ensures c.put_slot.ensures (add-one a.j) _ _ c.merge.ensures c.clear.ensures
