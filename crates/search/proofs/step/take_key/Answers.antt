-- The lengths, the value, the path, and then the slot.
use native.Mathlib.Omega.{arith}
use mathlib.Core.Path.{◌≡◌, ◌∙◌}
use mathlib.Core.List.{List}
use Prim.Native.Nat.{ℕ, ◌-◌}
use lib.ListN.{length, take}
use lib.Seq.{length-take-le}
use Rattle.rows.specs.Sizes.{value_size}
use Rattle.entries.specs.Query.{Query}
use Rattle.value_range.specs.Spans.{Spans}
use Rattle.search.specs.Asks.{asks}
use Rattle.search.proofs.Steps.{known_front, wants_told, taken_none, taken_out, taken_slot}
use Rattle.search.proofs.step.take_key.Goals as goal

-- the span is that of the suffix's value bytes
of_rest : {q : Query} {k : List ℕ} {from to : ℕ} (v n : ℕ) → n ≡ value_size - v → Spans q k (value_size - v) from to → Spans q k n from to
of_rest v n e s = rw e s

pub returns-then-known-suffix-gt-ENDED_LIMIT : goal.returns-then-known-suffix-gt-ENDED_LIMIT
returns-then-known-suffix-gt-ENDED_LIMIT c =
    let a = c.args in
    let x = a.suffix.now in
    λ l. taken_none (asks a.q.now) a.known x.value.now x.path.now x.reference.now a.key.now (omega arith) (λ e m. omega arith)

pub returns-then-not-is_match : goal.returns-then-not-is_match
returns-then-not-is_match c =
    let a = c.args in
    let x = a.suffix.now in
    let m = c.ask_path in
    λ l.
    let q = asks a.q.now in
    let long = length-take-le a.known.value a.key.now (omega (arith, a.known.value_fits)) in
    let value = c.value_told-value.ensures q (take a.known.value a.key.now) x.value.now c.requires.1 (omega (arith, c.requires.0, long)) (of_rest a.known.value (length x.value.now) (omega (arith, c.requires.0)) l) in
    taken_out q a.known x.value.now x.path.now x.reference.now a.key.now (omega arith) _
    (known_front a.known.value a.known.path a.key.now _ (omega arith) (omega arith) a.known.value_fits m.ensures.key_unchanged)
    (λ f. wants_told q a.known x.value.now x.path.now x.reference.now a.key.now (omega arith) _ _ _ value (m.ensures.value f) c.is_match.ensures ∙ c.if-not-is_match.true)

pub returns : goal.returns
returns c =
    let a = c.args in
    let x = a.suffix.now in
    let m = c.ask_path in
    λ l.
    let q = asks a.q.now in
    let long = length-take-le a.known.value a.key.now (omega (arith, a.known.value_fits)) in
    let value = c.value_told-value.ensures q (take a.known.value a.key.now) x.value.now c.requires.1 (omega (arith, c.requires.0, long)) (of_rest a.known.value (length x.value.now) (omega (arith, c.requires.0)) l) in
    taken_slot q a.known x.value.now x.path.now x.reference.now a.key.now (omega arith) _
    (known_front a.known.value a.known.path a.key.now _ (omega arith) (omega arith) a.known.value_fits m.ensures.key_unchanged) _ _
    (λ f. wants_told q a.known x.value.now x.path.now x.reference.now a.key.now (omega arith) _ _ _ value (m.ensures.value f) c.is_match.ensures ∙ c.if-not-is_match.false)
    c.compose.ensures.value c.compose.ensures.key_after
