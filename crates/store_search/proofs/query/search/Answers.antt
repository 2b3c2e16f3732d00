-- Each check as it refuses, and then the listing.
use mathlib.Core.Path.{refl}
use Rattle.std.proofs.lemmas.Result.{err_from_is_err_and}
use Rattle.store_search.proofs.Checks.{refuses_4, refuses_query, lists, listed_as}
use Rattle.store_search.proofs.query.search.Goals as goal

pub returns-in_err-store : goal.returns-in_err-store
returns-in_err-store c =
    let p = err_from_is_err_and c.from_residual.result c.from_residual.ensures.1 in
    let o = c.in_err-store.ensures in
    rw (p.1, p.2, o.0) (refuses_4 o.1)

pub returns-in_err-query : goal.returns-in_err-query
returns-in_err-query c =
    let p = err_from_is_err_and c.from_residual-in_err-query.result c.from_residual-in_err-query.ensures.1 in
    let a = c.in_err-query.ensures in
    rw (p.1, p.2, a.0) (refuses_query _ c.in_ok-store.ensures.2 refl a.1)

pub returns-in_err-rows : goal.returns-in_err-rows
returns-in_err-rows c =
    let p = err_from_is_err_and c.from_residual-in_err-rows.result c.from_residual-in_err-rows.ensures.1 in
    let o = c.in_ok-store.ensures in
    let a = c.in_ok-query.ensures in
    rw (p.1, p.2) (lists o.1 o.2 a.1 (listed_as a.0 o.0 c.in_err-rows.ensures))

pub returns : goal.returns
returns c =
    let o = c.in_ok-store.ensures in
    let a = c.in_ok-query.ensures in
    lists o.1 o.2 a.1 (listed_as a.0 o.0 c.in_ok-rows.ensures)
