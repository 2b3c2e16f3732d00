-- The small trie, or a level.
use native.Mathlib.Omega.{arith}
use native.Mathlib.Nat.{mod-lt}
use Rattle.store_overflow.specs.Entering.{entry_of}
use Rattle.store_add.proofs.Held.{small_inside}
use Rattle.store_add.proofs.Placing.{placed_first, placed_level}
use Rattle.store_add.proofs.place.place.Goals as goal

pub overflow_add-front : goal.overflow_add-front
overflow_add-front c = omega (arith, mod-lt c.args.front.held c.requires.ready.m_low)

pub add_small-requires : goal.add_small-requires
add_small-requires c =
    let p = c.requires.ready in
    let part = c.trie_range-place.ensures in
    (omega (arith, small_inside c.args.front.m c.args.front.l, p.enough), omega (arith, part.inside, part.begins))

pub returns-then-front : goal.returns-then-front
returns-then-front c =
    let p = c.requires.ready in
    let f = c.args.front in
    placed_first f.m f.l f.tau f.held _ _ (entry_of c.args.entry.now) c.args.key.now c.args.store.now _ p.enough p.short c.requires.spells c.trie_range-place.ensures
    c.if-front.true c.add_small.ensures

pub returns-else-front : goal.returns-else-front
returns-else-front c = let p = c.requires.ready in placed_level _ _ _ _ _ _ _ p.m_low c.if-front.false p.space c.overflow.ensures
