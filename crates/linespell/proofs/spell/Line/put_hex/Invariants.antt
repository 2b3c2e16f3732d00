-- The digits of the bytes so far are written.
use lib.ListN.{take}
use Rattle.linespell.specs.Spelling.{hex}
use Rattle.linespell.specs.Put.{Put}
use Rattle.linespell.proofs.spell.Line.put_hex.Given as goal

abbrev pub invariant-loop-b : goal.invariant-loop-b
invariant-loop-b l = Put l.initial.self (hex (take l.b-index l.s)) l.self
