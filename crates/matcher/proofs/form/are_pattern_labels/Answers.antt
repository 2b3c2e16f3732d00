-- `matcher::form::are_pattern_labels` meets its contract: each label of the iterator is tested.
use Rattle.std.proofs.Common.{rules, tests}
use mathlib.Core.Path.{◌∙◌}
use Rattle.std.proofs.lemmas.Iterator.Consumers.{YieldsList-from_first}
use Rattle.std.proofs.lemmas.Iterator.Search.{all_from_yields_List}
use Rattle.buffer.proofs.Lists.{list_all_is}
use Rattle.matcher.specs.Labels.{labels_of}
use Rattle.matcher.specs.Form.{pattern_label}
use Rattle.matcher.proofs.form.are_pattern_labels.Goals as goal

pub returns : goal.returns
returns c =
    all_from_yields_List pattern_label c.all.new.self _ _ c.all.ensures.ran (YieldsList-from_first (λ x. x.now) (λ s. labels_of s.bytes.now) (labels_of c.args.pattern.now) c.new.ensures) (λ x b q k. search (rules, tests))
    ∙ list_all_is pattern_label (labels_of c.args.pattern.now)
