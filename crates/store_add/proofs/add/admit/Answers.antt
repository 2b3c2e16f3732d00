-- Looked up, then put in.
use Rattle.std.proofs.Common.{rules}
use native.Mathlib.Omega.{arith}
use mathlib.Core.Path.{refl, ◌∙◌}
use Rattle.buffer.proofs.Digits.{eight_written}
use Rattle.store_overflow.specs.Entering.{entry_of}
use Rattle.store_add.proofs.Growing.{ended_is}
use Rattle.store_add.proofs.Promised.{looked_up_entry, repeats, puts}
use Rattle.store_add.proofs.add.admit.Goals as goal

pub returns-then-has_entry : goal.returns-then-has_entry
returns-then-has_entry c =
    let p = c.requires in
    let e = entry_of c.args.entry.now in
    let w = looked_up_entry c.args.front.m c.args.front.l e _ _ c.args.store.now _ (c.to_be_bytes-value.ensures ∙ eight_written e.value (search rules))
    (ended_is 201 e.path _ (omega (arith, p.short)) c.copy_from.ensures) c.has_entry.ensures in
    repeats _ _ p.accepted _ _ _ p.m_is p.l_is w c.if-has_entry.true _ p.held_is

pub put_entry-requires-clause-spells : goal.put_entry-requires-clause-spells
put_entry-requires-clause-spells c =
    let e = entry_of c.args.entry.now in
    record {
      value = c.to_be_bytes-value.ensures ∙ eight_written e.value (search rules);
      path = ended_is 201 e.path _ (omega (arith, c.requires.short)) c.copy_from.ensures;
      reference = refl;
    }

pub returns : goal.returns
returns c =
    let p = c.requires in
    let e = entry_of c.args.entry.now in
    let w = looked_up_entry c.args.front.m c.args.front.l e _ _ c.args.store.now _ (c.to_be_bytes-value.ensures ∙ eight_written e.value (search rules))
    (ended_is 201 e.path _ (omega (arith, p.short)) c.copy_from.ensures) c.has_entry.ensures in
    let put = c.put_entry.ensures in
    puts _ _ p.accepted _ _ _ p.m_is p.l_is w c.if-has_entry.false p.types p.enough _ _ p.tau_is p.held_is _ _ put.placed put.is
