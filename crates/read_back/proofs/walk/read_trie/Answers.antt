-- The walk begins below no node, with nothing known.
use mathlib.Core.Path.{refl}
use borrow.Author.Rules.{rules}
use Rattle.read_back.proofs.Whole.{trie_read}
use Rattle.read_back.proofs.walk.read_trie.Goals as goal

pub returns : goal.returns
returns c = let w = c.walk.ensures.walked in trie_read w refl refl refl c.requires (search (rules, w.same_reference)) refl
