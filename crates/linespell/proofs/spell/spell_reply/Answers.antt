-- Seven writers, each where the one before ended.
use Rattle.std.proofs.Common.{rules}
use Rattle.linespell.specs.Spelling.{reply}
use Rattle.linespell.proofs.Writing.{put_then}
use Rattle.linespell.proofs.spell.spell_reply.Goals as goal

pub returns : goal.returns
unfolding reply
returns c =
    let p = put_then c.put_bytes.ensures
    (put_then c.put_decimal.ensures
    (put_then c.put_byte.ensures
    (put_then c.put_decimal-2.ensures
    (put_then c.put_byte-2.ensures
    (put_then c.put_decimal-3.ensures
    c.put_byte-3.ensures))))) in
    let w = p.wrote in
    let s = p.same in
    search rules
