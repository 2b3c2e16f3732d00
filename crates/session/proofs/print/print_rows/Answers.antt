-- One row after another, each where the last one ended.
use mathlib.Core.Path.{◌≡◌, refl, ◌∙◌, ap}
use native.Mathlib.Omega.{arith}
use Prim.Native.Nat.{◌/◌, ◌<◌}
use lib.ListN.{length, take}
use lib.Seq.{take_all}
use Rattle.rows.specs.Sizes.{row_size}
use Rattle.rows.specs.Records.{records}
use Rattle.rows.proofs.Records.{length_records}
use Rattle.session.proofs.Printing.{first_rows, row_whole, print_none, print_more, row_line_length}
use Rattle.session.proofs.print.print_rows.Goals.{After-as_chunks}
use Rattle.session.proofs.print.print_rows.Goals as goal

rows_are : (c : After-as_chunks) → take c.args.n c.as_chunks.result.0.now ≡ records row_size c.args.n c.args.answer.now
rows_are c = ap (take c.args.n) c.as_chunks.ensures.front ∙ first_rows row_size c.args.n (length c.args.answer.now / row_size) c.args.answer.now (omega (arith, c.requires))

count_is : (c : After-as_chunks) → length (take c.args.n c.as_chunks.result.0.now) ≡ c.args.n
count_is c = ap length (rows_are c) ∙ length_records row_size c.args.n c.args.answer.now

pub loop-row-init : goal.loop-row-init
loop-row-init c = (refl, omega arith, print_none _)

pub loop-row-preserved : goal.loop-row-preserved
loop-row-preserved c =
    let l = c.loop-row in
    let a = c.args in
    let b = (goal.at.loop-row-preserved c).After-as_chunks in
    let e = rows_are b in
    let i : l.row-index < a.n = omega (arith, c.loop-row-test.true, count_is b) in
    let w = rw e at c.spell_row-at.ensures in
    let fits = row_line_length _ (row_whole a.n a.answer.now c.requires.0 l.row-index i) in
    let n = length_records row_size a.n a.answer.now in
    (omega arith, omega (arith, w.ends, fits, l.invariant.1), rw e (print_more _ l.row-index (omega (arith, i, n)) (rw e at l.invariant.2) w))

pub returns-clause-wrote : goal.returns-clause-wrote
returns-clause-wrote c =
    let l = c.loop-row in
    let rows = records row_size c.args.n c.args.answer.now in
    let b = (goal.at.returns-clause-wrote c).After-as_chunks in
    let w = rw (rows_are b) at l.invariant.2 in
    rw (take_all l.row-index rows (omega (arith, length_records row_size c.args.n c.args.answer.now, c.loop-row-test.false, count_is b))) at w
