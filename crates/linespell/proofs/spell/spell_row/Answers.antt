-- Seven writers, each where the one before ended.
use mathlib.Core.Path.{◌≡◌}
use Rattle.std.proofs.Common.{rules}
use Rattle.buffer.specs.Numbers.{number}
use Rattle.buffer.specs.Splice.{region}
use Rattle.rows.specs.Sizes.{value_size}
use Rattle.linespell.specs.Spelling.{entry_line}
use Rattle.rows.specs.Entry.{entry_of}
use Rattle.linespell.proofs.Writing.{put_then}
use Rattle.linespell.proofs.spell.spell_row.Goals as goal

pub returns : goal.returns
unfolding entry_line entry_of
returns c =
    let p = put_then c.put_bytes.ensures
    (put_then c.put_decimal.ensures
    (put_then c.put_byte.ensures
    (put_then c.put_hex.ensures
    (put_then c.put_byte-2.ensures
    (put_then c.put_bytes-2.ensures
    c.put_byte-3.ensures))))) in
    let w = p.wrote in
    let s = p.same in
    let v : c.get64-value.result ≡ number (region c.args.row.now 0 value_size) = c.get64-value.ensures in
    rw (← v, ← c.path_of-path.ensures.1) (search rules)
