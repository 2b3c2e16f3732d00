-- The region is lent to the addition where it has room.
use native.Mathlib.Omega.{arith}
use Prim.Native.Nat.{◌+◌, ◌*◌, ◌-◌}
use mathlib.Core.Path.{◌≡◌, sym, ◌∙◌}
use lib.ListN.{length}
use Rattle.book.specs.Front.{front_room, entry_room}
use Rattle.buffer.proofs.Splice.{splice_part}
use Rattle.store_add.proofs.Growing.{stays, grows}
use Rattle.store_add.proofs.small.add_small.Goals as goal

pub returns-then-used-key : goal.returns-then-used-key
returns-then-used-key c =
    let h = c.add in
    let m = c.args.front.m in
    let n : front_room + entry_room * m - front_room ≡ entry_room * m = omega arith in
    let l : length h.new.s ≡ entry_room * m = omega arith in
    grows m c.args.used _ c.args.store.now c.requires.0 h.new.s h.result l (rw n at h.ensures) _ (splice_part _ _ _ _ (l ∙ sym n))

pub returns-else-used-key : goal.returns-else-used-key
returns-else-used-key c = stays c.args.front.m c.args.used _ c.args.store.now c.requires.0 (omega (arith, c.if-used-key.false))
