-- `width` counts the bytes before the first comma, and so does `position`.
use mathlib.Core.Path.{◌≡◌, sym}
use Prim.Native.Nat.{◌+◌}
use borrow.Author.Tests.{tests}
use Rattle.std.proofs.Common.{rules, refl, unwrap_or}
use Rattle.std.proofs.lemmas.Iterator.{YieldsList-from_slice, IsFirst-from_position, index_from_first}
use lib.ListN.{length, drop}
use lib.Seq.{drop-drop}
use Rattle.linefields.specs.Fields.{width}
use Rattle.linefields.proofs.Scan.{width_hit, width_miss}
use Rattle.logline.proofs.Reading.{field_there, field_lost}
use Rattle.logline.proofs.reader.Line.field.Goals as goal
use Rattle.logline.proofs.reader.Line.field.Goals.{After-position}

counted : (c : After-position) → width c.rest-rest.result.now ≡ unwrap_or c.position.result (length c.rest-rest.result.now)
unfolding width
counted c =
    let s = c.rest-rest.result.now in
    index_from_first width (λ x. x ≡ 44) (λ x. x ≡ 44 → ⊥) refl width_hit width_miss s c.position.result
    (IsFirst-from_position _ _ c.position.result (λ x. x ≡ 44) (λ x. x ≡ 44 → ⊥) c.position.ensures.ran (YieldsList-from_slice s (search rules)) (λ x q k. search (rules, tests)) (λ x q k. search (rules, tests)))

pub returns-in_err-end : goal.returns-in_err-end
returns-in_err-end c =
    let none = counted (goal.at.returns-in_err-end c).After-position in
    record { means = λ k. rw (c.from_residual.ensures, ← c.rest-rest.ensures) (field_lost _ (rw c.in_err-end.was at none) k) }

pub returns : goal.returns
returns c =
    let some = counted (goal.at.returns c).After-position in
    let l = c.args.self.now in
    let e = c.in_ok-end.end in
    let d : drop (l.at + (e + 1)) l.bytes.now ≡ drop (e + 1) c.rest-rest.result.now = rw c.rest-rest.ensures (sym (drop-drop (e + 1) l.at l.bytes.now)) in
    record { means = λ k. rw (d, ← c.rest-rest.ensures) (field_there _ e (rw c.in_ok-end.was at some) (rw c.iter.ensures.rest at c.in_ok-end.ensures.bound) k) }
