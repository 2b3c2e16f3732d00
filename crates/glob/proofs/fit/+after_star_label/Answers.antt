-- By the laws of the first byte; the loop of `after_star` passes on `Trying`.
use mathlib.Core.Path.{◌≡◌, sym, subst}
use mathlib.Core.List.{List}
use mathlib.Core.Bool.{Bool, false}
use Prim.Native.Nat.{ℕ, ◌+◌, ◌≤◌}
use borrow.Author.Rules.{rules}
use Rattle.glob.specs.Bytes.{star}
use lib.ListN.{length, get_or}
use lib.Dec.{eqb}
use borrow.Author.Tests.{ne_eqb}
use Rattle.glob.specs.Fit.{first, fits_label}
use Rattle.glob.specs.Inner.{Says, OffLabel}
use Rattle.glob.proofs.Parts.{rest, split, back, back_all, no_items, an_item}
use Rattle.glob.proofs.Trials.{trying, trying_fits, trying_never, trying_on, trying_none, tried_none, tried_step, some_none, first_off, star_law, byte_law, end_law, alike_first}
use Rattle.glob.proofs.fit.+after_star_label.Goals as goal

pub after_star-returns-then-is_empty : goal.after_star-returns-then-is_empty
after_star-returns-then-is_empty t c =
    let e : length c.args.p.now ≡ 0 = search rules in
    rw (end_law c.args.p.now e) (some_none c.args.s.now)

pub after_star-loop-next-init : goal.after_star-loop-next-init
after_star-loop-next-init t c =
    let p = c.args.p.now in
    let s = c.args.s.now in
    trying (fits_label p) (OffLabel p s) (length s) 0 (back s) s c.next_try-next.result c.next_try-next.ensures (tried_step p s s) (tried_none (fits_label p) (length s) (back s 0) s (back_all s))

pub after_star-returns-in-Fits : goal.after_star-returns-in-Fits
after_star-returns-in-Fits t c = trying_fits (fits_label c.args.p.now) (length c.args.s.now) c.in-Some.i (back c.args.s.now) c.args.s.now c.loop-next.next c.in-Some.is c.loop-next.invariant c.in-Fits.ensures

pub after_star-returns-in-Never : goal.after_star-returns-in-Never
after_star-returns-in-Never t c = trying_never (fits_label c.args.p.now) (length c.args.s.now) c.in-Some.i (back c.args.s.now) c.args.s.now c.loop-next.next c.in-Some.is c.loop-next.invariant c.in-Never.ensures

pub after_star-loop-next-preserved : goal.after_star-loop-next-preserved
after_star-loop-next-preserved t c =
    let p = c.args.p.now in
    let s = c.args.s.now in
    let k = fits_label p in
    let i = c.in-Some.i in
    let at = trying_on k (length s) i (back s) s c.loop-next.next c.in-Some.is c.loop-next.invariant in
    let l : i ≤ length s = search rules in
    trying k (OffLabel p s) (length s) (i + 1) (back s) s c.next_try-next-in-Fails.result c.next_try-next-in-Fails.ensures (tried_step p s s) (tried_step p s s i l c.in-Fails.ensures at)

pub after_star-returns : goal.after_star-returns
after_star-returns t c = trying_none (fits_label c.args.p.now) (length c.args.s.now) (back c.args.s.now) c.args.s.now c.loop-next.next c.in_default.is c.loop-next.invariant

pub label-returns-in-None-None : goal.label-returns-in-None-None
label-returns-in-None-None t c =
    let e : length c.args.p.now ≡ 0 = search rules in
    let f : length c.args.s.now ≡ 0 = search rules in
    rw (end_law c.args.p.now e, no_items c.args.s.now f)

pub label-returns-in-None-Some : goal.label-returns-in-None-Some
label-returns-in-None-Some t c =
    let e : length c.args.p.now ≡ 0 = search rules in
    let f : length c.args.s.now ≡ 0 → ⊥ = λ z. search rules in
    rw (end_law c.args.p.now e, an_item 0 c.args.s.now f)

pub label-returns-in-Some-eq42-default : goal.label-returns-in-Some-eq42-default
label-returns-in-Some-eq42-default t c =
    let p = c.args.p.now in
    let f : length p ≡ 0 → ⊥ = λ z. search rules in
    let e : get_or p 0 0 ≡ star = search rules in
    subst (λ (g : List ℕ → Bool). Says g c.args.s.now c.after_star.result) (sym (star_law p f e)) c.after_star.ensures

pub label-returns-in-Some-None : goal.label-returns-in-Some-None
label-returns-in-Some-None t c =
    let p = c.args.p.now in
    let f : length p ≡ 0 → ⊥ = λ z. search rules in
    let w : get_or p 0 0 ≡ star → ⊥ = λ z. search rules in
    let g : length c.args.s.now ≡ 0 = search rules in
    rw (byte_law p f w, no_items c.args.s.now g)

pub label-returns-in-Some-Some : goal.label-returns-in-Some-Some
label-returns-in-Some-Some t c =
    let p = c.args.p.now in
    let s = c.args.s.now in
    let f : length p ≡ 0 → ⊥ = λ z. search rules in
    let w : get_or p 0 0 ≡ star → ⊥ = λ z. search rules in
    let g : length s ≡ 0 → ⊥ = λ z. search rules in
    let e : get_or p 0 0 ≡ get_or s 0 0 = search rules in
    alike_first p s c.alike-n.result c.label.result f w g e c.alike-n.ensures c.label.ensures

pub label-returns-in-Some-Some-2 : goal.label-returns-in-Some-Some-2
label-returns-in-Some-Some-2 t c =
    let p = c.args.p.now in
    let s = c.args.s.now in
    let f : length p ≡ 0 → ⊥ = λ z. search rules in
    let w : get_or p 0 0 ≡ star → ⊥ = λ z. search rules in
    let g : length s ≡ 0 → ⊥ = λ z. search rules in
    let e : get_or p 0 0 ≡ get_or s 0 0 → ⊥ = λ z. search rules in
    rw (byte_law p f w)
    (subst (λ (l : List ℕ). first (eqb (get_or p 0 0)) (fits_label (rest p)) l ≡ false) (sym (split s g)) (first_off (fits_label (rest p)) (eqb (get_or p 0 0)) (get_or s 0 0) (rest s) (ne_eqb _ _ e)))
