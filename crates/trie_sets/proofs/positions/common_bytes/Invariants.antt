-- Position by position, slot by slot.
use Prim.Native.Nat.{ℕ, ◌+◌, ◌≤◌, ◌<◌}
use mathlib.Core.Path.{◌≡◌}
use lib.ListN.{length}
use Rattle.trie_sets.specs.Positions.{slot_byte}
use Rattle.trie_sets.proofs.positions.common_bytes.Given as goal

abbrev pub invariant-loop-slot : goal.invariant-loop-slot
invariant-loop-slot l = (l.shared ≡ l.limit) × ((k : ℕ) → k < l.slot-index + 1 → slot_byte l.slots k (l.start + l.j) ≡ l.byte)

abbrev pub invariant-positions : goal.invariant-positions
invariant-positions l =
    (l.shared ≡ l.limit)
    × ((k i : ℕ) → k < length l.slots → l.from ≤ i → i < l.j → slot_byte l.slots k (l.start + i) ≡ slot_byte l.slots 0 (l.start + i))
