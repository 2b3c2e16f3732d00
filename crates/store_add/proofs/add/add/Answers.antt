-- Opened, checked, admitted.
use native.Mathlib.Omega.{arith}
use mathlib.Core.Path.{sym, ap, subst}
use lib.ListN.{length}
use Rattle.std.proofs.lemmas.Result.{err_from_is_err_and}
use Rattle.rows.specs.Entry.{Entry, entry}
use Rattle.book.specs.Front.{front_of}
use Rattle.book.specs.Replies.{Reply}
use Rattle.book.specs.Promises.{Adds}
use Rattle.book.proofs.Numbers.{add_short}
use Rattle.store_add.specs.Ready.{Ready}
use Rattle.store_add.specs.Said.{added}
use Rattle.store_add.proofs.Accepted.{checkable, ready}
use Rattle.store_add.proofs.Promised.{refuses, refuses_with}
use Rattle.store_add.proofs.add.add.Goals as goal

pub returns-in_err-front : goal.returns-in_err-front
returns-in_err-front c =
    let a = c.args in
    let o = c.in_err-front.ensures in
    let p = err_from_is_err_and c.from_residual.result c.from_residual.ensures.1 in
    rw (p.1, p.2, o.0) (refuses a.store.now (entry a.path.now a.value a.reference.now) 3 (add_short (length a.store.now) (front_of a.store.now) (entry a.path.now a.value a.reference.now) o.1))

pub check-requires : goal.check-requires
check-requires c =
    let o = c.in_ok-front.ensures in
    (checkable _ _ _ _ o.1.m_is o.1.l_is o.1.held_is o.2).2

pub returns-in_err-entry : goal.returns-in_err-entry
returns-in_err-entry c =
    let a = c.args in
    let o = c.in_ok-front.ensures in
    let p = err_from_is_err_and c.from_residual-in_err-entry.result c.from_residual-in_err-entry.ensures.1 in
    rw (p.1, p.2)
    (refuses_with a.store.now (entry a.path.now a.value a.reference.now) _
    (c.in_err-entry.ensures.checked (length a.store.now) (front_of a.store.now) o.1.m_is o.1.l_is o.1.held_is o.2))

pub admit-requires : goal.admit-requires
admit-requires c =
    let a = c.args in
    let o = c.in_ok-front.ensures in
    let k = c.in_ok-entry.ensures in
    let e = entry a.path.now a.value a.reference.now in
    let z = sym (ap (λ (x : Reply). x.number) (k.checked (length a.store.now) (front_of a.store.now) o.1.m_is o.1.l_is o.1.held_is o.2)) in
    subst (λ (x : Entry). Ready c.in_ok-front.field-0.front.m c.in_ok-front.field-0.front.l c.in_ok-front.field-0.front.tau c.in_ok-front.field-0.front.held x a.store.now) (sym k.same)
    (ready _ _ _ _ e a.store.now o.1.m_is o.1.l_is o.1.tau_is o.1.held_is z (omega arith) (λ i. omega (arith, c.type_inv.reference i)))

pub returns : goal.returns
returns c =
    let a = c.args in
    subst (λ (x : Entry). Adds x a.store.now c.admit.new.store (added c.admit.result)) c.in_ok-entry.ensures.same c.admit.ensures
