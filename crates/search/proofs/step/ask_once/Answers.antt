-- The dimension in which they branch, and the other.
use native.Mathlib.Omega.{arith}
use Prim.Native.Nat.{◌<◌}
use mathlib.Core.Path.{◌≡◌, refl, sym, ap, ◌∙◌}
use lib.ListN.{take}
use lib.Seq.{length-take-le}
use borrow.Author.Tests.{eqb-true}
use Rattle.rows.specs.Sizes.{value_size}
use Rattle.value_range.specs.Spans.{Spans}
use Rattle.search.specs.Asks.{asks}
use Rattle.search.proofs.OneByte.{value_byte, path_byte}
use Rattle.search.proofs.Steps.{apart_none, apart_else, path_asked}
use Rattle.std.specs.Prelude.{Some}
use Rattle.search.proofs.step.ask_once.Goals as goal

pub returns-in-Value : goal.returns-in-Value
returns-in-Value c =
    let a = c.args in
    let x = a.known in
    let bytes = c.branches-bytes in
    let is = c.in-Some.is ∙ ap Some c.in-Value.is in
    let spans : x.value < value_size → Spans (asks a.q.now) (take x.value a.key.now) 1 bytes.result.from bytes.result.to =
    λ short. bytes.ensures a.q.now.pattern.now (omega (arith, length-take-le x.value a.key.now (omega (arith, x.value_fits)))) in
    record {
      bytes = λ k short. spans short;
      path = λ o f. path_asked a.q.now.pattern.now a.key.now _ x.path _ (omega arith) (c.reach_from.ensures a.q.now.formed a.q.now.prefix) f;
      value = λ z o. absurd (o is);
      single = λ y.
          let same : bytes.result.to ≡ bytes.result.from = sym (eqb-true bytes.result.from bytes.result.to y) in
          value_byte a.q.now.pattern.now a.q.now.range.from a.q.now.range.to x.value x.path bytes.result.from a.key.now (omega arith) x.value_fits (λ short. rw same at (spans short)) a.above is;
    }

pub returns-in_default-dimension : goal.returns-in_default-dimension
returns-in_default-dimension c =
    let a = c.args in
    let x = a.known in
    let is = c.in-Some.is in
    let apart = apart_else is c.in_default-dimension.not-Value in
    record {
      bytes = λ o. absurd (apart o);
      path = λ o. absurd (apart o);
      value = λ z o. c.value_reach.ensures a.q.now.pattern.now;
      single = λ y.
          path_byte a.q.now.pattern.now a.q.now.range.from a.q.now.range.to x.value x.path _ a.key.now (omega arith) x.path_fits a.q.now.prefix (c.one_leads.ensures a.q.now.pattern.now) y refl a.above (apart_none is) apart;
    }
