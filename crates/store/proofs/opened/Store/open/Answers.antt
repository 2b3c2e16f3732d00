-- Test by test.
use native.Mathlib.Omega.{arith}
use mathlib.Core.Path.{refl}
use Rattle.store.proofs.Opening.{no_length, no_held, opened}
use Rattle.store.proofs.opened.Store.open.Goals as goal

pub returns-then-front-held_limit : goal.returns-then-front-held_limit
returns-then-front-held_limit c =
    let r = c.in-Some.ensures in
    (refl, no_held _ c.in-Some.front r.0 r.2 (omega (arith, c.held_limit.ensures.0)))

pub returns-then-bytes-needed : goal.returns-then-bytes-needed
returns-then-bytes-needed c = let r = c.in-Some.ensures in (refl, no_length _ c.in-Some.front r.0 _ c.needed.ensures c.if-bytes-needed.true)

pub returns : goal.returns
returns c =
    let r = c.in-Some.ensures in
    (refl, r.0, opened _ c.in-Some.front r.0 _ r.1 r.2 c.needed.ensures c.if-bytes-needed.false (omega (arith, c.held_limit.ensures.0)))
