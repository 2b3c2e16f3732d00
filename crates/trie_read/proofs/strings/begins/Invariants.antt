-- After i equal bytes, what is left decides.
use Prim.Native.Nat.{◌≤◌}
use mathlib.Core.Path.{◌≡◌}
use lib.ListN.{length, drop}
use Rattle.trie_theory.specs.Strings.{begins}
use Rattle.trie_read.proofs.strings.begins.Given as goal

abbrev pub invariant-loop-i : goal.invariant-loop-i
invariant-loop-i l = (l.i ≤ length l.p) × (length l.p ≤ length l.s) × (begins l.p l.s ≡ begins (drop l.i l.p) (drop l.i l.s))
