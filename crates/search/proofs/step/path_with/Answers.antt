-- The bytes are laid behind the known ones, and the path asked on the buffer.
use mathlib.Core.Path.{ap, ◌∙◌}
use native.Mathlib.Omega.{arith}
use Rattle.matcher.specs.Reach.{reach_of}
use Rattle.search.proofs.Steps.{path_more}
use Rattle.search.proofs.step.path_with.Goals as goal

pub returns-clause-value : goal.returns-clause-value
returns-clause-value c =
    let a = c.args in
    let more = path_more a.key.now _ a.s.now a.p (omega arith) c.requires c.copy_from.ensures in
    λ f. c.reach_from.ensures a.q.now.formed a.q.now.prefix (rw more f) ∙ ap (reach_of a.q.now.pattern.now) more
