-- `glob::fit::equal_labels` meets its contract. The invariant: the labels up to n are shared, and those that begin there are alike up to i.
use mathlib.Core.Path.{◌≡◌, sym, subst, ◌∙◌}
use mathlib.Core.Logic.{⊎_elim}
use Prim.Native.Nat.{ℕ, ◌+◌, ◌<◌, ◌≤◌}
use native.Mathlib.Omega.{arith}
use lib.ListN.{length}
use Rattle.buffer.proofs.Tests.{same?}
use Rattle.glob.specs.Inner.{SharedLabels}
use Rattle.glob.proofs.Cuts.{begun_at, begun_end}
use Rattle.glob.proofs.Shared.{Run, run_first, run_on, run_next, shared_none, shared_on, shared_unlike, shared_longer}
use Rattle.glob.proofs.fit.equal_labels.Goals as goal
use Rattle.glob.proofs.fit.equal_labels.Goals.{then-pattern-i-eq-SLASH, else-pattern-i-eq-SLASH}

pub loop-i-init : goal.loop-i-init
loop-i-init c =
    let p = c.args.pattern.bytes.now in
    let s = c.args.path.bytes.now in
    (shared_none p s c.args.pattern.begun c.args.path.begun, λ m. (omega arith, run_first p s (omega (arith, c.requires)) (omega arith) c.args.pattern.begun c.args.path.begun))

pub returns-then-pattern-i : goal.returns-then-pattern-i
returns-then-pattern-i c =
    let p = c.args.pattern.bytes.now in
    let s = c.args.path.bytes.now in
    let m : c.loop-i.i < length s = omega (arith, c.if-path-i.false) in
    shared_unlike p s c.loop-i.n c.loop-i.i (c.loop-i.invariant.1 (λ z. omega (arith, m))).1 c.loop-i-test.true (omega (arith, m)) c.if-pattern-i-eq-STAR.false (λ z. omega (arith, z, c.if-pattern-i.true)) c.loop-i.invariant.0

pub loop-i-preserved : goal.loop-i-preserved
loop-i-preserved c =
    let p = c.args.pattern.bytes.now in
    let s = c.args.path.bytes.now in
    let i = c.loop-i.i in
    let l = c.loop-i-test.true in
    let m : i < length s = omega (arith, c.if-path-i.false) in
    let e = c.if-pattern-i.false in
    let run = (c.loop-i.invariant.1 (λ z. omega (arith, m))).1 in
    let Again : ℕ → Type 0 = λ k. SharedLabels p s k × ((length s ≡ 0 → ⊥) → (i + 1 ≤ length s) × Run p s k (i + 1)) in
    elim c.if-pattern-i-eq-SLASH.branch [
      | then-pattern-i-eq-SLASH w ↦ let z = w.if-pattern-i-eq-SLASH.true in subst Again (sym w.n-is)
          (shared_on p s c.loop-i.n i run (omega arith) (omega (arith, m)) (begun_at p i l z) (begun_at s i m (sym e ∙ z)) c.loop-i.invariant.0, λ g. (omega (arith, m), run_next p s i l m e z))
      | else-pattern-i-eq-SLASH w ↦ subst Again (sym w.n-is)
          (c.loop-i.invariant.0, λ g. (omega (arith, m), run_on p s i l m e c.loop-i.n c.if-pattern-i-eq-STAR.false w.if-pattern-i-eq-SLASH.false run))
    ]

-- the pattern has ended, and the path goes on
pub returns-then-pattern-path : goal.returns-then-pattern-path
returns-then-pattern-path c =
    let p = c.args.pattern.bytes.now in
    let s = c.args.path.bytes.now in
    let run = c.loop-i.invariant.1 (λ z. omega (arith, c.if-pattern-path.true)) in
    shared_longer p s c.loop-i.n c.loop-i.i run.1 (omega (arith, c.loop-i-test.false)) (omega (arith, c.if-pattern-path.true)) c.loop-i.invariant.0

-- both have ended
pub returns : goal.returns
returns c =
    let p = c.args.pattern.bytes.now in
    let s = c.args.path.bytes.now in
    let i = c.loop-i.i in
    let a = c.loop-i.invariant.0 in
    let end = c.loop-i-test.false in
    let m : length s ≤ length p = omega (arith, c.if-pattern-path.false) in
    ⊎_elim
    (λ (z : length s ≡ 0). subst (SharedLabels p s) (omega (arith, a.in_path, z)) a)
    (λ (z : length s ≡ 0 → ⊥).
    let run = c.loop-i.invariant.1 z in
    subst (SharedLabels p s) (omega (arith, run.0, m, end)) (shared_on p s c.loop-i.n i run.1 (omega arith) run.0 (begun_end p i (omega (arith, end))) (begun_end s i (omega (arith, m, end))) a))
    (same? (length s) 0)
