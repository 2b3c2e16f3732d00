-- `glob::fit::next_begin` meets its contract, by `next_up` and `next_own`.
use Rattle.std.proofs.Common.{◌≡◌, true, false, rules, arith}
use Rattle.std.proofs.lemmas.Iterator.{first_from_Range}
use Rattle.glob.specs.Labels.{labels_of}
use Rattle.glob.proofs.Cuts.{next_up, next_own, begins_at}
use Rattle.glob.proofs.fit.next_begin.Goals as goal

pub returns-then-pattern-lt2 : goal.returns-then-pattern-lt2
returns-then-pattern-lt2 c = next_up (labels_of c.args.pattern.bytes.now) c.args.path.now c.args.from c.next_slash.result (omega (arith, c.if-path-from.false)) c.next_slash.ensures

pub returns : goal.returns
returns c =
    let p = c.args.pattern.bytes.now in
    let s = c.args.path.now in
    let l = c.if-pattern-lt2.false in
    next_own p s (omega (arith, l)) c.args.pattern.begun c.if-pattern-eq-STAR.false c.if-pattern-eq-SLASH.false c.args.from _ (omega (arith, c.if-path-from.false)) c.saturating_sub.ensures c.find.result
    (first_from_Range _ _ _ _ (λ i. begins_at p s i ≡ true) (λ i. begins_at p s i ≡ false) c.find.ensures.ran
    (λ x q k. search rules)
    (λ x q k. search rules))
