-- Looking a key up in a trie, by walking down with its bytes.
use Rattle.std.specs.Prelude.{Bool, false, cond, ◌&&◌, List, eqb}
use Rattle.trie_theory.specs.Forest.{Key, Forest, none, leaf, inner}
use Rattle.buffer.specs.Lists.{any, same}
use Rattle.trie_theory.specs.Strings.{all_begin, remains}
use Rattle.trie_theory.specs.Dimensions.{Above, below}
use Rattle.trie_theory.specs.SmallTrie.{meets}

-- equal in all strings and the reference
unfoldable pub same_key : Key → Key → Bool
same_key x y = same (same eqb) x.strings y.strings && same eqb x.reference y.reference

-- x is one of the list
unfoldable pub among : Key → List Key → Bool
among x ys = any (same_key x) ys

-- x stands in the tries: its branching byte leads to a node, it agrees with the node's strings, and what remains of it
-- is one of the leaf's suffixes or stands in the children
unfoldable pub member : Above → Forest → Key → Bool
member above none x = false
member above (leaf s ts more) x =
    cond (meets above s x.strings) (all_begin s x.strings && among (remains s x) ts) (member above more x)
member above (inner d s children more) x =
    cond (meets above s x.strings) (all_begin s x.strings && member (below d) children (remains s x)) (member above more x)
