-- Each path is tested.
use Rattle.std.proofs.Common.{rules, tests}
use mathlib.Core.Path.{◌∙◌, ap}
use Rattle.std.proofs.lemmas.Iterator.{YieldsList-from_slice}
use Rattle.std.proofs.lemmas.Iterator.Search.{all_from_yields_List}
use Rattle.buffer.specs.Lists.{all}
use Rattle.entries.specs.Slots.{short_path}
use Rattle.trie_sets.proofs.Sets.{list_all_is}
use Rattle.trie_sets.proofs.Slotted.{chunks_slots}
use Rattle.trie_sets.proofs.positions.paths_are_short.Goals as goal

pub returns : goal.returns
unfolding short_path
returns c =
    all_from_yields_List short_path _ _ _ c.all.ensures.ran (YieldsList-from_slice c.as_chunks.result.0.now cc) (λ x b q k. search (rules, tests))
    ∙ list_all_is short_path c.as_chunks.result.0.now ∙ ap (all short_path) (c.as_chunks.ensures.front ∙ chunks_slots c.args.slots.now)
