-- A path that is ruled out is a mismatch, whatever is known; another is asked behind the known bytes.
use native.Mathlib.Omega.{arith}
use mathlib.Core.Path.{refl, sym, ap, ◌∙◌}
use Rattle.buffer.specs.Splice.{region}
use Rattle.buffer.proofs.Splice.{length_region}
use Rattle.rows.specs.Sizes.{path_at}
use Rattle.search.specs.Steps.{both}
use Rattle.search.proofs.Steps.{both_out, front_kept}
use Rattle.search.proofs.step.ask_path.Goals as goal

pub returns-in_default : goal.returns-in_default
returns-in_default c =
    let a = c.args in
    record {
      value = λ f. both_out a.value _ (sym (c.ruled_out.ensures.mismatch a.q.now.prefix c.if-ruled_out.true (region a.key.now path_at a.p) (length_region a.key.now path_at a.p (omega arith))));
      key_unchanged = refl;
    }

pub returns-in_default-2 : goal.returns-in_default-2
returns-in_default-2 c =
    let a = c.args in
    record {
      value = λ f. c.both.ensures ∙ ap (both a.value) (c.path_with.ensures.value f);
      key_unchanged = front_kept a.key.now _ a.s.now a.p (omega arith) c.requires c.path_with.ensures.key_after;
    }
