-- The records read are those of the trie.
use Rattle.store_read.proofs.Reading.{walked}
use Rattle.store_read.proofs.listing.LevelWalk.walk.Goals as goal

pub returns : goal.returns
returns c = walked c.read_trie.ensures
