-- Zeros where there is no root, or its end.
use native.Mathlib.Omega.{arith}
use mathlib.Core.Path.{sym, ◌∙◌}
use Rattle.store.proofs.Ends.{no_root, has_root}
use Rattle.store.proofs.extent.trie_length.Goals as goal

pub returns-then-t-lt-HEAD_SIZE-clause-value : goal.returns-then-t-lt-HEAD_SIZE-clause-value
returns-then-t-lt-HEAD_SIZE-clause-value c = λ f n s w e. no_root _ f n s w e (λ h. absurd (omega arith))

pub returns-then-body-eq0-clause-value : goal.returns-then-body-eq0-clause-value
returns-then-body-eq0-clause-value c = λ f n s w e. no_root _ f n s w e (λ h. sym c.get32-body.ensures ∙ c.if-body-eq0.true)

pub returns-then-end-t-clause-value : goal.returns-then-end-t-clause-value
returns-then-end-t-clause-value c =
    λ f n s w e.
    let r = has_root c.args.t.now f n s w e (omega arith) (omega (arith, c.get32-body.ensures, c.if-body-eq0.false)) in
    omega (arith, r.0, c.get32-body.ensures)

pub returns-else-end-t-clause-value : goal.returns-else-end-t-clause-value
returns-else-end-t-clause-value c =
    λ f n s w e.
    let r = has_root c.args.t.now f n s w e (omega arith) (omega (arith, c.get32-body.ensures, c.if-body-eq0.false)) in
    absurd (omega (arith, r, c.get32-body.ensures, c.if-end-t.false))
