-- Check after check.
use native.Mathlib.Omega.{arith}
use mathlib.Core.Path.{◌≡◌, refl}
use Rattle.std.proofs.lemmas.Result.{err_from_is_err_and}
use Rattle.matcher.specs.Form.{path_form, path_number}
use Rattle.rows.specs.Entry.{entry}
use Rattle.book.specs.Replies.{reply}
use Rattle.store.specs.declared.refusal.Refusal.TheVariants.{PathMalformed, PathTooLong}
use Rattle.store.proofs.Said.{unformed_said}
use Rattle.store_add.proofs.Checks.{path_refused, none, fine_short, not_twenty, is_full, has_space}
use Rattle.store_add.proofs.check.check.Goals.{In_ok-refuse_unformed}
use Rattle.store_add.proofs.check.check.Goals as goal

-- the path is formed
path_fine : (c : In_ok-refuse_unformed) → reply 0 0 0 ≡ reply (path_number (path_form c.args.path.now)) 0 0
path_fine c =
    let w = c.in_ok-refuse_unformed.ensures in
    unformed_said path_number PathTooLong PathMalformed refl refl refl c.check_path.ensures w.fine w.long w.bad

pub returns-in_err-refuse_unformed-clause-checked : goal.returns-in_err-refuse_unformed-clause-checked
returns-in_err-refuse_unformed-clause-checked c =
    let f = c.args.front in
    let w = c.in_err-refuse_unformed.ensures in
    let p = err_from_is_err_and c.from_residual.result c.from_residual.ensures.1 in
    rw (p.1, p.2) (path_refused f.m f.l f.held (entry c.args.path.now c.args.value c.args.reference.now) _ (unformed_said path_number PathTooLong PathMalformed refl refl refl c.check_path.ensures w.fine w.long w.bad))

pub returns-in_default-clause-checked : goal.returns-in_default-clause-checked
returns-in_default-clause-checked c =
    let f = c.args.front in
    not_twenty f.m f.l f.held (entry c.args.path.now c.args.value c.args.reference.now) (path_fine (goal.at.returns-in_default-clause-checked c).In_ok-refuse_unformed) c.in_default.ensures.cases

pub returns-then-front-held_limit-clause-checked : goal.returns-then-front-held_limit-clause-checked
returns-then-front-held_limit-clause-checked c =
    let f = c.args.front in
    is_full f.m f.l f.held (entry c.args.path.now c.args.value c.args.reference.now) (path_fine (goal.at.returns-then-front-held_limit-clause-checked c).In_ok-refuse_unformed) c.in-Some.ensures.cases.long
    (omega (arith, c.held_limit.ensures.0, c.if-front-held_limit.true))

pub invariant_of-result-clause-short : goal.invariant_of-result-clause-short
invariant_of-result-clause-short c =
    let f = c.args.front in
    fine_short c.args.path.now (none f.m f.l f.held (entry c.args.path.now c.args.value c.args.reference.now) (path_fine (goal.at.invariant_of-result-clause-short c).In_ok-refuse_unformed))

pub returns-clause-checked : goal.returns-clause-checked
returns-clause-checked c =
    let f = c.args.front in
    has_space f.m f.l f.held (entry c.args.path.now c.args.value c.args.reference.now) (path_fine (goal.at.returns-clause-checked c).In_ok-refuse_unformed) c.in-Some.ensures.cases.long
    c.requires (λ e. c.if-front-held_limit.false (omega (arith, e, c.held_limit.ensures.0)))
