-- The digits of the bytes so far are written.
use native.Mathlib.Omega.{arith}
use Prim.Native.Nat.{ℕ, ◌*◌, ◌+◌, ◌≤◌}
use mathlib.Core.Path.{◌≡◌, refl}
use mathlib.Core.List.{List}
use lib.ListN.{length, take}
use lib.Seq.{take_all, length-take-le}
use Rattle.linespell.specs.Spelling.{hex}
use Rattle.linespell.proofs.Writing.{wrote_nothing, put_then, hex_next, length_hex}
use Rattle.linespell.proofs.spell.Line.put_hex.Goals as goal

pub loop-b-init : goal.loop-b-init
unfolding hex
loop-b-init c = record { wrote = wrote_nothing _ _ (omega arith); kept = refl; same = refl }

-- where the loop stands
at_turn : (s : List ℕ) (i at next : ℕ) → i ≤ length s → next ≡ at + length (hex (take i s)) → next ≡ at + 2 * i
at_turn s i at next h e = omega (arith, length_hex (take i s), length-take-le i s h)

pub put_byte-requires : goal.put_byte-requires
put_byte-requires c =
    let l = c.loop-b in
    omega (arith, at_turn c.args.s.now l.b-index _ _ (omega arith) l.invariant.wrote.ends)

pub put_byte-requires-in-loop-b : goal.put_byte-requires-in-loop-b
put_byte-requires-in-loop-b c =
    let l = c.loop-b in
    omega (arith, at_turn c.args.s.now l.b-index _ _ (omega arith) l.invariant.wrote.ends)

pub loop-b-preserved : goal.loop-b-preserved
loop-b-preserved c =
    let l = c.loop-b in
    rw (hex_next c.args.s.now l.b-index (omega arith), ← c.glyph.ensures, ← c.glyph-in-loop-b.ensures) (put_then (put_then l.invariant c.put_byte.ensures) c.put_byte-in-loop-b.ensures)

pub returns : goal.returns
returns c =
    let l = c.loop-b in
    rw (take_all l.b-index c.args.s.now (omega arith)) at l.invariant
