-- The siblings that are passed have lesser branching bytes (`Seek`), and what is left is shorter: the end of the tries.
use Prim.Native.Nat.{◌-◌, ◌≤◌}
use mathlib.Core.Path.{◌≡◌}
use mathlib.Core.List.{[], ◌∷◌}
use lib.ListN.{length, drop}
use Rattle.trie_theory.specs.Forest.{Forest}
use Rattle.trie_theory.specs.Sound.{Ascending}
use Rattle.trie_theory.specs.Encode.{Regular, encode}
use Rattle.trie_read.specs.Shape.{above_of}
use Rattle.trie_read.proofs.Seeking.{Seek}
use Rattle.trie_read.proofs.place.find.Given as goal

abbrev pub invariant-loop-node : goal.invariant-loop-node
invariant-loop-node l = (length l.t ≤ length l.tries) × (l.t ≡ drop (length l.tries - length l.t) l.tries)
    × ((f : Forest) → Regular 2 f → Ascending (above_of l.above) f → l.tries ≡ encode f → Seek l.tries l.above (l.value ∷ l.path ∷ []) f (length l.tries - length l.t) l.t)

abbrev pub decreases-loop-node : goal.decreases-loop-node
decreases-loop-node l = length l.t
