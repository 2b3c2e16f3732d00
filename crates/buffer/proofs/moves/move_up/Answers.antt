-- With i blocks to go those behind them have moved; the bytes that fill no block come last.
use native.Mathlib.Omega.{arith}
use native.Mathlib.Nat.{add-zero, sub-zero, sub_self}
use Prim.Native.Nat.{◌+◌, ◌-◌, ◌*◌, ◌/◌, ◌%◌}
use mathlib.Core.Path.{◌≡◌, refl, sym, ◌∙◌}
use Rattle.buffer.proofs.Splice.{splice_nil}
use Rattle.buffer.proofs.Turns.{up_turn, copied_within}
use Rattle.buffer.proofs.moves.move_up.Goals as goal

pub loop-i-init : goal.loop-i-init
loop-i-init c =
    let all : c.args.n % 512 + c.args.n / 512 * 512 ≡ c.args.n = omega arith in
    (omega arith, refl, rw (all, sub_self) (sym (splice_nil _ _)))

pub loop-i-preserved : goal.loop-i-preserved
loop-i-preserved c =
    let l = c.loop-i in
    let a = c.args in
    let b = c.move_block in
    let left : a.n % 512 + (l.i - 1) * 512 ≡ a.n % 512 + l.i * 512 - 512 = omega arith in
    (omega arith, b.auto.s ∙ l.invariant.1, b.ensures ∙ rw left (up_turn _ _ _ _ _ _ 512 l.invariant.2 (omega arith) (omega arith) (omega arith) (omega arith)))

pub returns : goal.returns
returns c =
    let l = c.loop-i in
    let a = c.args in
    let rest = a.n % 512 in
    let left : rest + l.i * 512 ≡ rest = omega arith in
    let u = up_turn l.s a.s.now a.from a.to a.n rest rest (rw left at l.invariant.2) (omega arith) (omega arith) (omega arith) (omega arith) in
    c.copy_within.ensures.after ∙ copied_within _ _ _ _ (omega arith) ∙ simp (sub_self, add-zero, sub-zero) at u
