-- The form of the pattern, then the range.
use mathlib.Core.Path.{◌≡◌, refl}
use Rattle.std.proofs.lemmas.Result.{err_from_is_err_and}
use Rattle.matcher.specs.Form.{pattern_form, pattern_number}
use Rattle.entries.specs.Query.{asked}
use Rattle.book.specs.Replies.{reply}
use Rattle.store.specs.declared.refusal.Refusal.TheVariants.{PatternMalformed, PatternTooLong}
use Rattle.store.proofs.Said.{unformed_said}
use Rattle.store_search.proofs.Checks.{pattern_said, range_said, query_fine}
use Rattle.store_search.proofs.query.check.Goals.{In_ok-refuse_unformed}
use Rattle.store_search.proofs.query.check.Goals as goal

-- the pattern is formed
pattern_fine : (c : In_ok-refuse_unformed) → reply 0 0 0 ≡ reply (pattern_number (pattern_form c.args.pattern.now)) 0 0
pattern_fine c =
    let f = c.in_ok-refuse_unformed.ensures in
    unformed_said pattern_number PatternTooLong PatternMalformed refl refl refl c.check_pattern.ensures f.fine f.long f.bad

pub returns-in_err-refuse_unformed : goal.returns-in_err-refuse_unformed
returns-in_err-refuse_unformed c =
    let a = c.args in
    let f = c.in_err-refuse_unformed.ensures in
    let p = err_from_is_err_and c.from_residual.result c.from_residual.ensures.1 in
    rw (p.1, p.2) (pattern_said (asked a.pattern.now a.range.from a.range.to) _ (unformed_said pattern_number PatternTooLong PatternMalformed refl refl refl c.check_pattern.ensures f.fine f.long f.bad))

pub returns-then-range : goal.returns-then-range
returns-then-range c = let a = c.args in range_said (asked a.pattern.now a.range.from a.range.to) (pattern_fine (goal.at.returns-then-range c).In_ok-refuse_unformed) c.if-range.true

pub returns : goal.returns
returns c =
    let a = c.args in
    (rw (c.new.ensures.pattern, c.new.ensures.range) refl, query_fine (asked a.pattern.now a.range.from a.range.to) (pattern_fine (goal.at.returns c).In_ok-refuse_unformed) c.if-range.false)
