-- `matcher::reach::reach_from` meets its contract: no more bytes than every path that fits begins with are compared.
use mathlib.Core.Path.{◌≡◌, sym, ◌∙◌}
use mathlib.Core.List.{[]}
use Prim.Native.Nat.{◌-◌}
use native.Mathlib.Omega.{arith}
use Rattle.matcher.proofs.Firsts.{first_tested}
use Rattle.matcher.proofs.Decided.{reach_labels_lem}
use Rattle.matcher.proofs.Ruled.{ruled_out, compared}
use Rattle.matcher.proofs.reach.reach_from.Goals as goal

pub returns-then-differs : goal.returns-then-differs
returns-then-differs c =
    λ P h f.
    let a = c.args in
    let all : a.literal - 0 ≡ a.literal = omega arith in
    sym (ruled_out a.pattern.now [] a.known.now a.literal h (omega arith) (rw all (sym c.differs.ensures ∙ c.if-differs.true)))

pub returns-then-literal-pattern : goal.returns-then-literal-pattern
returns-then-literal-pattern c =
    λ P h f.
    let a = c.args in
    compared a.pattern.now a.literal P h a.known.now (omega arith) (sym c.differs.ensures ∙ c.if-differs.false)

pub returns : goal.returns
returns c = λ P h f. c.reach_labels.ensures ∙ reach_labels_lem c.args.pattern.now c.args.known.now P (first_tested _ f)
