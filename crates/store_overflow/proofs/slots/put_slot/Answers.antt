-- Five writes make the slot.
use Rattle.entries.proofs.Slots.{slot_put}
use Rattle.store_overflow.specs.Entering.{entry_of}
use Rattle.store_overflow.proofs.slots.put_slot.Goals as goal

pub returns : goal.returns
returns c =
    let e = c.args.entry.now in
    rw (c.clear.ensures, c.copy_from-2.ensures, c.copy_from.ensures, c.put64.ensures) (slot_put (entry_of e) e.short e.twenty c.args.s.now c.args.at c.requires)
