-- After i equal bytes, what is left decides.
use native.Mathlib.Omega.{arith}
use mathlib.Core.Path.{sym, ◌∙◌}
use Rattle.trie_read.proofs.Compare.{begins_short, begins_all, begins_on, begins_off}
use Rattle.trie_read.proofs.strings.begins.Goals as goal

pub returns-then-s-p : goal.returns-then-s-p
returns-then-s-p c = sym (begins_short _ _ (omega arith))

pub returns-then-p-i : goal.returns-then-p-i
returns-then-p-i c =
    let l = c.loop-i in
    let a = c.args in
    sym (l.invariant.2 ∙ begins_off a.p.now a.s.now l.i (omega arith) (omega arith) c.if-p-i.true)

pub loop-i-preserved : goal.loop-i-preserved
loop-i-preserved c =
    let l = c.loop-i in
    let a = c.args in
    (omega arith, omega arith, l.invariant.2 ∙ begins_on a.p.now a.s.now l.i (omega arith) (omega arith) c.if-p-i.false)

pub returns : goal.returns
returns c =
    let l = c.loop-i in
    let a = c.args in
    sym (l.invariant.2 ∙ begins_all a.p.now a.s.now l.i (omega arith) (omega arith))
