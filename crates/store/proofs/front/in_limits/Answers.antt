-- Two tests let the third decide.
use mathlib.Core.Path.{◌≡◌, sym, ◌∙◌}
use mathlib.Core.Bool.{Bool, true, false, ◌&&◌, true≢false}
use Rattle.book.specs.Front.{in_limits}
use Rattle.store.proofs.front.in_limits.Goals.{then-is_within, else-is_within}
use Rattle.store.proofs.front.in_limits.Goals as goal

third : (a b c r : Bool) → a ≡ true → b ≡ true → r ≡ c → r ≡ a && b && c
third a b c r p q e = rw (p, q, e)

second : (a b c r : Bool) → a ≡ true → b ≡ false → r ≡ false → r ≡ a && b && c
second a b c r p q e = rw (p, q, e)

first : (a b c r : Bool) → a ≡ false → r ≡ false → r ≡ a && b && c
first a b c r p e = rw (p, e)

pub returns-then-is_within-2 : goal.returns-then-is_within-2
unfolding in_limits
returns-then-is_within-2 c =
    elim c.if-is_within.branch [
      | then-is_within w ↦ third _ _ _ _ (sym c.is_within.ensures ∙ w.if-is_within.true) (sym w.is_within-then-is_within.ensures ∙ sym w.value-is ∙ c.if-is_within-2.true) c.is_within-then-is_within-2.ensures
      | else-is_within w ↦ absurd (true≢false (sym c.if-is_within-2.true ∙ w.value-is ∙ w.if-is_within.false))
    ]

pub returns-else-is_within-2 : goal.returns-else-is_within-2
unfolding in_limits
returns-else-is_within-2 c =
    elim c.if-is_within.branch [
      | then-is_within w ↦ second _ _ _ _ (sym c.is_within.ensures ∙ w.if-is_within.true) (sym w.is_within-then-is_within.ensures ∙ sym w.value-is ∙ c.if-is_within-2.false) c.if-is_within-2.false
      | else-is_within w ↦ first _ _ _ _ (sym c.is_within.ensures ∙ w.if-is_within.false) c.if-is_within-2.false
    ]
