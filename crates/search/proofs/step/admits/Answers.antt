-- The root is entered; a child by the answers with the branching byte added.
use native.Mathlib.Omega.{arith}
use mathlib.Core.Path.{ap, ap₂, ◌∙◌}
use mathlib.Core.Bool.{◌&&◌}
use mathlib.Core.List.{[], ◌++◌}
use lib.ListN.{take}
use lib.Seq.{length-take-le}
use Rattle.buffer.specs.Splice.{region}
use Rattle.matcher.specs.Reach.{reach_of, goes_on}
use Rattle.matcher.proofs.Firsts.{first_before}
use Rattle.matcher.specs.declared.reach.Answer.{Answer}
use Rattle.rows.specs.Sizes.{path_at}
use Rattle.search.specs.Asks.{asks}
use Rattle.search.proofs.Steps.{first_less, both_goes, enters_root, enters_value, enters_path, enters_other, known_front, apart_none, apart_else, path_apart, other_apart}
use Rattle.std.specs.Prelude.{Some}
use Rattle.search.proofs.step.admits.Goals as goal

pub returns-in_default-clause-value : goal.returns-in_default-clause-value
returns-in_default-clause-value c =
    let a = c.args in
    λ f. enters_root (asks a.q.now) a.above a.known.value a.known.path a.key.now a.node.now.value.now a.node.now.path.now c.in_default.is

pub returns-in-Value-clause-value : goal.returns-in-Value-clause-value
returns-in-Value-clause-value c =
    let a = c.args in
    let x = a.known in
    let pre = c.requires in
    let is = c.in-Some.is ∙ ap Some c.in-Value.is in
    let value = c.value_more-value.ensures a.q.now.pattern.now (λ short. pre.bytes is (omega (arith, short, length-take-le x.value a.key.now (omega (arith, x.value_fits))))) in
    λ f. c.goes_on.ensures
    ∙ ap goes_on c.both.ensures
    ∙ both_goes c.value_more-value.result a.common.other
    ∙ ap₂ (λ (y z : Answer). goes_on y && goes_on z) value (pre.path is (first_before (region a.key.now path_at x.path) _ f))
    ∙ enters_value (asks a.q.now) a.above x.value x.path a.key.now a.node.now.value.now a.node.now.path.now is

pub returns-in-Path-clause-value : goal.returns-in-Path-clause-value
returns-in-Path-clause-value c =
    let a = c.args in
    let x = a.known in
    let is = c.in-Some.is ∙ ap Some c.in-Path.is in
    let path = a.node.now.path.now in
    let known = region a.key.now path_at x.path in
    let other = c.requires.value (apart_none is) (apart_else c.in-Some.is (path_apart c.in-Path.is)) in
    λ f. c.goes_on-in-Path.ensures
    ∙ ap goes_on (c.ask_path.ensures.value (first_less known path _ f))
    ∙ both_goes a.common.other (reach_of a.q.now.pattern.now (known ++ take c.min.result path))
    ∙ ap (λ (y : Answer). goes_on y && goes_on (reach_of a.q.now.pattern.now (known ++ take c.min.result path))) other
    ∙ rw c.min.ensures (enters_path (asks a.q.now) a.above x.value x.path a.key.now a.node.now.value.now path is)

pub returns-in-Path-clause-key_unchanged : goal.returns-in-Path-clause-key_unchanged
returns-in-Path-clause-key_unchanged c =
    let a = c.args in
    known_front a.known.value a.known.path a.key.now _ (omega arith) (omega arith) a.known.value_fits c.ask_path.ensures.key_unchanged

pub returns-in-Other-clause-value : goal.returns-in-Other-clause-value
returns-in-Other-clause-value c =
    let a = c.args in
    let x = a.known in
    let is = c.in-Some.is ∙ ap Some c.in-Other.is in
    let path = a.node.now.path.now in
    let known = region a.key.now path_at x.path in
    let other = c.requires.value (apart_none is) (apart_else c.in-Some.is (other_apart _ c.in-Other.is)) in
    λ f. c.goes_on-in-Other.ensures
    ∙ ap goes_on (c.ask_path-in-Other.ensures.value (first_less known path 0 f))
    ∙ both_goes a.common.other (reach_of a.q.now.pattern.now (known ++ []))
    ∙ ap (λ (y : Answer). goes_on y && goes_on (reach_of a.q.now.pattern.now (known ++ []))) other
    ∙ enters_other (asks a.q.now) a.above x.value x.path a.key.now a.node.now.value.now path _ is

pub returns-in-Other-clause-key_unchanged : goal.returns-in-Other-clause-key_unchanged
returns-in-Other-clause-key_unchanged c =
    let a = c.args in
    known_front a.known.value a.known.path a.key.now _ (omega arith) (omega arith) a.known.value_fits c.ask_path-in-Other.ensures.key_unchanged
