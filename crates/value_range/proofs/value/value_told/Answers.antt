-- By the tests of the span and of the length.
use native.Mathlib.Omega.{arith}
use mathlib.Core.Path.{◌≡◌}
use mathlib.Core.Bool.{true, false}
use Prim.Native.Nat.{◌+◌}
use lib.ListN.{length}
use lib.Dec.{eqb}
use borrow.Author.Tests.{eq-eqb, ne_eqb}
use Rattle.rows.specs.Sizes.{value_size}
use Rattle.value_range.proofs.Ranges.{with_span}
use Rattle.value_range.proofs.value.value_told.Goals as goal

pub returns-then-not-contains : goal.returns-then-not-contains
returns-then-not-contains c = λ q k s e l spans. rw (with_span q k s _ _ spans, ← e, ← c.contains.ensures, c.if-not-contains.true)

pub returns-then-known-eq-VALUE_SIZE : goal.returns-then-known-eq-VALUE_SIZE
returns-then-known-eq-VALUE_SIZE c = λ q k s e l spans.
    let whole : eqb (length k + length s) value_size ≡ true = eq-eqb (length k + length s) value_size (omega arith) in
    rw (with_span q k s _ _ spans, ← e, ← c.contains.ensures, c.if-not-contains.false, whole)

pub returns : goal.returns
returns c = λ q k s e l spans.
    let part : eqb (length k + length s) value_size ≡ false = ne_eqb (length k + length s) value_size (λ z. c.if-known-eq-VALUE_SIZE.false (omega arith)) in
    rw (with_span q k s _ _ spans, ← e, ← c.contains.ensures, c.if-not-contains.false, part)
