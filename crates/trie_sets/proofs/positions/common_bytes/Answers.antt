-- The first slot is passed over: a turn's slot is the one behind it.
use native.Mathlib.Omega.{arith}
use mathlib.Core.Path.{◌≡◌}
use mathlib.Core.List.{[]}
use Prim.Native.Nat.{◌+◌}
use borrow.Author.Count.{below_more}
use Rattle.std.proofs.lemmas.Grind.{get_or_after_one}
use Rattle.buffer.proofs.Lists.{tail_part}
use Rattle.trie_sets.proofs.positions.common_bytes.Goals as goal

pub loop-slot-preserved : goal.loop-slot-preserved
loop-slot-preserved c =
    let i = c.loop-slot.slot-index in
    let next : i + 1 ≡ 1 + i = omega arith in
    let same = rw (tail_part 1 c.args.slots.now, get_or_after_one c.args.slots.now i []) at c.if-slot-start.false in
    (c.loop-slot.invariant.0, below_more _ _ c.loop-slot.invariant.1 (rw next same))
