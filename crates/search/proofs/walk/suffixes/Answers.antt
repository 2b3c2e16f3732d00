-- Each turn finds the key of one suffix, or passes it (`Going`), and what is left is shorter.
use native.Mathlib.Omega.{arith}
use Prim.Native.Nat.{ℕ, ◌+◌, ◌-◌, ◌<◌}
use mathlib.Core.Path.{◌≡◌, refl}
use mathlib.Core.List.{List}
use lib.ListN.{length, take}
use lib.Seq.{length-take-le}
use Rattle.buffer.specs.Numbers.{number}
use Rattle.buffer.proofs.Lists.{tail_part}
use Rattle.rows.specs.Sizes.{value_size, row_size}
use Rattle.entries.specs.Slots.{slot_size}
use Rattle.trie_theory.specs.Strings.{at}
use Rattle.gather.specs.Walks.{known_strings}
use Rattle.search.specs.Asks.{asks}
use Rattle.search.proofs.Steps.{taken_none, span_kept, known_span, known_long, tail_value}
use Rattle.search.proofs.Finding.{going_start, going_done, suffixes_end, suffixes_above, suffixes_put, suffixes_pass}
use Rattle.search.proofs.walk.suffixes.Goals.{then-known-n-eq-VALUE_SIZE+else-rest-x+then-take_key, then-known-n-eq-VALUE_SIZE+else-rest-x+else-take_key, else-known-n-eq-VALUE_SIZE}
use Rattle.search.proofs.walk.suffixes.Goals as goal

-- the first bytes of the buffer
row_long : (k : List ℕ) → length k ≡ slot_size → length (take row_size k) ≡ row_size
row_long k e = length-take-le row_size k (omega arith)

pub loop-suffix-init : goal.loop-suffix-init
loop-suffix-init c = going_start c.told-key

-- the first suffix lies above the range
pub returns-then-rest-x : goal.returns-then-rest-x
returns-then-rest-x c =
    let a = c.args in
    let x = a.known in
    let suffix = c.in-Some.suffix in
    let to = c.span_behind-rest.result.to in
    let is = rw (tail_part 22 c.loop-suffix.t.now, tail_value c.in-Some.ensures.within) at c.first_number-x.ensures in
    let told : to < number suffix.value.now = omega (arith, is, c.if-rest-x.true) in
    let long = length-take-le x.value a.key.now (omega (arith, x.value_fits)) in
    let whole : length (at 0 (known_strings x a.key.now)) + (value_size - x.value) ≡ value_size = omega (arith, long, known_long x.value x.path a.key.now, x.value_fits) in
    going_done c.loop-suffix.invariant
    (suffixes_above c.first_suffix.ensures.value suffix c.in-Some.is (known_span x.value x.path a.key.now (c.span_behind-rest.ensures a.q.now.pattern.now)) whole told)

pub take_key-requires : goal.take_key-requires
take_key-requires c =
    let w = c.in-Some.ensures.within in
    (c.if-known-n-eq-VALUE_SIZE.true, rw (tail_part 22 c.loop-suffix.t.now, tail_value w) at c.first_number-x.ensures)

pub loop-suffix-preserved : goal.loop-suffix-preserved
loop-suffix-preserved c =
    let l = c.loop-suffix in
    let a = c.args in
    let x = a.known in
    let suffix = c.in-Some.suffix in
    let is = c.first_suffix.ensures.value in
    let e = c.in-Some.is in
    let long = c.in-Some.ensures.within.long in
    let rest = span_kept x.value x.path a.key.now _ (c.span_behind-rest.ensures a.q.now.pattern.now) l.invariant.finding.rows.kept in
    elim c.if-known-n-eq-VALUE_SIZE.branch [
      | then-known-n-eq-VALUE_SIZE+else-rest-x+then-take_key y ↦ rw (y.output-is, y.key-is)
          (suffixes_put l.invariant is _ e long (y.take_key.ensures rest) y.take_key.array_long c.requires.fits y.if-take_key.true (rw (row_long y.take_key.new.key (omega arith)) at y.put.ensures))
      | then-known-n-eq-VALUE_SIZE+else-rest-x+else-take_key y ↦ rw (y.output-is, y.key-is)
          (suffixes_pass l.invariant is _ e long (y.take_key.ensures rest) y.take_key.array_long y.if-take_key.false)
      | else-known-n-eq-VALUE_SIZE y ↦ rw (y.output-is, y.key-is)
          (suffixes_pass l.invariant is _ e long
          (taken_none (asks a.q.now) x suffix.value.now suffix.path.now suffix.reference.now l.key l.invariant.long (λ f m. y.if-known-n-eq-VALUE_SIZE.false f)) l.invariant.long refl)
    ]

pub returns : goal.returns
returns c = going_done c.loop-suffix.invariant (suffixes_end c.first_suffix.ensures.value c.in_default.is)
