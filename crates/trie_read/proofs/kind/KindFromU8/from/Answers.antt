-- A byte above 2.
use Rattle.trie_read.proofs.KindBytes.{beyond_kind}
use Rattle.trie_read.proofs.kind.KindFromU8.from.Goals as goal

pub returns-in_default : goal.returns-in_default
returns-in_default c = beyond_kind _ _
