-- The four cases of a byte: the end, behind a line that is too long, one more, one too many.
use mathlib.Core.Path.{refl, ap}
use native.Mathlib.Omega.{arith}
use Rattle.linecut.specs.Input.{counted, event_of}
use Rattle.linecut.proofs.Feeding.{event_line, push_end, push_more, push_over, as_end, as_more, as_over}
use Rattle.linecut.proofs.lines.LineCutter.push.Goals as goal

pub invariant_of-self : goal.invariant_of-self
unfolding event_of
invariant_of-self c = record { within = refl }

pub returns-then-byte-eq10 : goal.returns-then-byte-eq10
returns-then-byte-eq10 c =
    let b = c.args.self.now.begun in
    let e = c.if-byte-eq10.true in
    record { by_index = λ begun h. push_end _ _ begun h _ b.within _ e; pushed_as = as_end _ _ _ _ b.within e; same_reference = refl }

pub returns-in_default : goal.returns-in_default
returns-in_default c =
    let n = ap counted c.in_default.is in
    rw c.in_default.is (record { by_index = λ begun h. push_over _ _ begun h _ c.if-byte-eq10.false (omega arith); pushed_as = as_over _ _ _ c.if-byte-eq10.false (omega arith); same_reference = refl })

pub invariant_of-self-then-len-lt-LINE_LIMIT : goal.invariant_of-self-then-len-lt-LINE_LIMIT
invariant_of-self-then-len-lt-LINE_LIMIT c = record { within = event_line _ (omega (arith, c.if-len-lt-LINE_LIMIT.true)) }

pub invariant_of-self-else-len-lt-LINE_LIMIT : goal.invariant_of-self-else-len-lt-LINE_LIMIT
unfolding event_of
invariant_of-self-else-len-lt-LINE_LIMIT c = record { within = refl }

pub returns-then-len-lt-LINE_LIMIT : goal.returns-then-len-lt-LINE_LIMIT
returns-then-len-lt-LINE_LIMIT c =
    rw (c.in-Line.is, c.copy_from.ensures) (record { by_index = λ begun h. push_more _ _ begun h _ c.if-byte-eq10.false (omega (arith, c.if-len-lt-LINE_LIMIT.true)); pushed_as = as_more _ _ _ c.if-byte-eq10.false (omega (arith, c.if-len-lt-LINE_LIMIT.true)); same_reference = refl })

pub returns-else-len-lt-LINE_LIMIT : goal.returns-else-len-lt-LINE_LIMIT
returns-else-len-lt-LINE_LIMIT c =
    rw c.in-Line.is (record { by_index = λ begun h. push_over _ _ begun h _ c.if-byte-eq10.false (omega (arith, c.if-len-lt-LINE_LIMIT.false)); pushed_as = as_over _ _ _ c.if-byte-eq10.false (omega (arith, c.if-len-lt-LINE_LIMIT.false)); same_reference = refl })
