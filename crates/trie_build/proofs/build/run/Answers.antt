-- The first slot with another byte, or none.
use Prim.Native.Nat.{ℕ}
use mathlib.Core.List.{List}
use mathlib.Core.Path.{◌≡◌, ◌∙◌}
use lib.ListN.{get_or}
use Rattle.std.proofs.Common.{rules, tests}
use Rattle.std.proofs.lemmas.Iterator.{YieldsList-from_slice, IsFirst-from_position}
use Rattle.trie_sets.specs.Positions.{slot_byte}
use Rattle.trie_sets.proofs.Slotted.{chunks_slots}
use Rattle.trie_build.proofs.Runs.{run_found}
use Rattle.trie_build.proofs.build.run.Goals as goal

pub bounds-set-0 : goal.bounds-set-0
bounds-set-0 c = rw (c.as_chunks.ensures.front ∙ chunks_slots c.args.slots.now) c.requires

pub returns : goal.returns
returns c =
    let set = c.as_chunks.result.0.now in
    let column = c.args.column.at in
    let e = c.as_chunks.ensures.front ∙ chunks_slots c.args.slots.now in
    rw (← e, c.unwrap_or.ensures)
    (run_found set column c.position.result (rw e c.requires)
    (IsFirst-from_position _ _ c.position.result (λ (x : List ℕ). get_or x column 0 ≡ slot_byte set 0 column → ⊥) (λ (x : List ℕ). get_or x column 0 ≡ slot_byte set 0 column)
    c.position.ensures.ran (YieldsList-from_slice set cc) (λ x q k. search (rules, tests)) (λ x q k. search (rules, tests))))
