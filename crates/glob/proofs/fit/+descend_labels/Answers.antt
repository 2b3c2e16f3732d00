-- By the laws of the first labels; the loop of `descend` passes on `Trying`.
use mathlib.Core.Path.{◌≡◌, sym, ap, subst, ◌∙◌}
use mathlib.Core.List.{List}
use mathlib.Core.Bool.{Bool, true, false}
use Prim.Native.Nat.{ℕ, ◌+◌, ◌≤◌}
use lib.ListN.{length}
use Rattle.std.proofs.Common.{rules}
use Rattle.glob.specs.Labels.{labels_of}
use Rattle.glob.specs.Fit.{after_some, fits_label, fit_labels}
use Rattle.glob.specs.Inner.{Says, OffLabels}
use Rattle.glob.proofs.Parts.{back, back_all}
use Rattle.glob.proofs.Trials.{trying, trying_fits, trying_never, trying_on, trying_none, tried_none, some_none}
use Rattle.glob.proofs.Cuts.{end_labels, deep_law, one_law, tried_place, first_not, none_first}
use Rattle.glob.proofs.fit.+descend_labels.Goals as goal

-- the labels left from b on
abbrev left : List ℕ → ℕ → List (List ℕ)
left s b = labels_of (back s b)

pub descend-returns-then-is_empty : goal.descend-returns-then-is_empty
descend-returns-then-is_empty t c = rw (end_labels (labels_of c.args.pattern.bytes.now) (sym c.is_empty.ensures ∙ c.if-is_empty.true)) (some_none (labels_of c.args.path.bytes.now))

pub descend-returns-in-Some : goal.descend-returns-in-Some
descend-returns-in-Some t c = subst (λ (k : List (List ℕ) → Bool). Says (after_some k) (labels_of c.args.path.bytes.now) c.try_last.result) (sym c.in-Some.ensures) c.try_last.ensures

pub descend-loop-next-init : goal.descend-loop-next-init
descend-loop-next-init t c =
    let s = c.args.path.bytes.now in
    let ps = labels_of c.args.pattern.bytes.now in
    let next = c.next_begin-next in
    (trying (fit_labels ps) (OffLabels ps s) (length s) 0 (left s) (labels_of s) next.result next.ensures.0 (tried_place ps s (labels_of s)) (tried_none (fit_labels ps) (length s) (left s 0) (labels_of s) (ap labels_of (back_all s))), next.ensures.1)

pub descend-returns-in-Fits : goal.descend-returns-in-Fits
descend-returns-in-Fits t c =
    let k = fit_labels (labels_of c.args.pattern.bytes.now) in
    let s = c.args.path.bytes.now in
    trying_fits k (length s) c.in-Some-next.b (left s) (labels_of s) c.loop-next.next c.in-Some-next.is c.loop-next.invariant.0 (subst (λ (u : List ℕ). k (labels_of u) ≡ true) c.from.ensures c.in-Fits.ensures)

pub descend-returns-in-Never : goal.descend-returns-in-Never
descend-returns-in-Never t c =
    let k = fit_labels (labels_of c.args.pattern.bytes.now) in
    let s = c.args.path.bytes.now in
    trying_never k (length s) c.in-Some-next.b (left s) (labels_of s) c.loop-next.next c.in-Some-next.is c.loop-next.invariant.0 (subst (λ (u : List ℕ). after_some k (labels_of u) ≡ false) c.from.ensures c.in-Never.ensures)

pub descend-loop-next-preserved : goal.descend-loop-next-preserved
descend-loop-next-preserved t c =
    let s = c.args.path.bytes.now in
    let ps = labels_of c.args.pattern.bytes.now in
    let k = fit_labels ps in
    let b = c.in-Some-next.b in
    let next = c.next_begin-next-in-Fails in
    let no = subst (λ (u : List ℕ). k (labels_of u) ≡ false) c.from.ensures c.in-Fails.ensures in
    let at = trying_on k (length s) b (left s) (labels_of s) c.loop-next.next c.in-Some-next.is c.loop-next.invariant.0 in
    let l : b ≤ length s = search rules in
    (trying k (OffLabels ps s) (length s) (b + 1) (left s) (labels_of s) next.result next.ensures.0 (tried_place ps s (labels_of s)) (tried_place ps s (labels_of s) b l (λ g. no) at), next.ensures.1)

pub descend-returns : goal.descend-returns
descend-returns t c = let s = c.args.path.bytes.now in trying_none (fit_labels (labels_of c.args.pattern.bytes.now)) (length s) (left s) (labels_of s) c.loop-next.next c.in_default-next.is c.loop-next.invariant.0

pub labels-returns-then-is_empty-2 : goal.labels-returns-then-is_empty-2
labels-returns-then-is_empty-2 t c = rw (end_labels (labels_of c.args.pattern.bytes.now) (sym c.is_empty.ensures ∙ c.if-is_empty.true)) (sym c.is_empty-then-is_empty.ensures ∙ c.if-is_empty-2.true)

pub labels-returns-then-is_empty : goal.labels-returns-then-is_empty
labels-returns-then-is_empty t c = rw (end_labels (labels_of c.args.pattern.bytes.now) (sym c.is_empty.ensures ∙ c.if-is_empty.true)) (sym c.is_empty-then-is_empty.ensures ∙ c.if-is_empty-2.false)

pub labels-returns-then-is_deep : goal.labels-returns-then-is_deep
labels-returns-then-is_deep t c =
    let cut = c.split_first in
    let law = deep_law c.args.pattern.bytes.now cut.result.0.now cut.result.1.bytes.now cut.ensures (sym c.is_deep.ensures ∙ c.if-is_deep.true) in
    subst (λ (g : List (List ℕ) → Bool). Says g (labels_of c.args.path.bytes.now) c.descend.result) (sym law) c.descend.ensures

pub labels-returns-then-is_empty-3 : goal.labels-returns-then-is_empty-3
labels-returns-then-is_empty-3 t c =
    let cut = c.split_first in
    rw (one_law c.args.pattern.bytes.now cut.result.0.now cut.result.1.bytes.now cut.ensures (sym c.is_deep.ensures ∙ c.if-is_deep.false))
    (none_first (fits_label cut.result.0.now) (fit_labels (labels_of cut.result.1.bytes.now)) (labels_of c.args.path.bytes.now) (sym c.is_empty-2.ensures ∙ c.if-is_empty-3.true))

pub labels-returns-then-not-label_fits : goal.labels-returns-then-not-label_fits
labels-returns-then-not-label_fits t c =
    let s = c.args.path.bytes.now in
    let cut = c.split_first in
    let other = c.split_first-2 in
    rw (one_law c.args.pattern.bytes.now cut.result.0.now cut.result.1.bytes.now cut.ensures (sym c.is_deep.ensures ∙ c.if-is_deep.false))
    (first_not (fits_label cut.result.0.now) (fit_labels (labels_of cut.result.1.bytes.now)) s other.result.0.now other.result.1.bytes.now other.ensures (sym c.label_fits.ensures ∙ c.if-not-label_fits.true))
