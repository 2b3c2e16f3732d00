-- `glob::fit::begin_unlike` meets its contract, by `unlike_law`.
use Rattle.std.proofs.Common.{arith, ◌≡◌, ◌<◌, length, get_or}
use borrow.Author.Tests.{eq-eqb, not-true}
use Rattle.buffer.proofs.Tests.{not_both}
use Rattle.glob.specs.Bytes.{star}
use Rattle.glob.proofs.Cuts.{unlike_law}
use Rattle.glob.proofs.fit.begin_unlike.Goals as goal

pub returns-then-pattern-ne-STAR : goal.returns-then-pattern-ne-STAR
returns-then-pattern-ne-STAR c z =
    let l : 1 < length c.args.pattern.bytes.now = grind arith in
    let m : 1 < length c.args.path.bytes.now = grind arith in
    let w : get_or c.args.pattern.bytes.now 1 0 ≡ star → ⊥ = grind arith in
    unlike_law c.args.pattern.bytes.now c.args.path.bytes.now l m c.args.pattern.begun c.args.path.begun w (λ y. not_both (eq-eqb _ _ y) (not-true _ z))
