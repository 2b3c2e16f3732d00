-- How large tries are: bytes, nodes, nodes one below the other, and the bytes that an addition adds.
use Rattle.std.specs.Prelude.{ℕ, suc, ◌+◌, max}
use Rattle.trie_theory.specs.Forest.{Key, Forest, none, leaf, inner}
use Rattle.buffer.specs.Lists.{sum}
use Rattle.trie_theory.specs.Strings.{commons, strip, remains, total}
use Rattle.trie_theory.specs.Dimensions.{Above, below}
use Rattle.trie_theory.specs.SmallTrie.{outcome}

-- The bytes, where a node costs h beside its strings and a suffix u: in n dimensions h is 5 + n and u referenceSize + n
unfoldable pub cost : ℕ → ℕ → Forest → ℕ
cost h u none = 0
cost h u (leaf s ts more) = h + total s + sum (λ t. u + total t.strings) ts + cost h u more
cost h u (inner d s children more) = h + total s + cost h u children + cost h u more

-- the number of nodes
unfoldable pub nodes : Forest → ℕ
nodes none = 0
nodes (leaf s ts more) = suc (nodes more)
nodes (inner d s children more) = suc (nodes children + nodes more)

-- the most nodes one below the other
unfoldable pub height : Forest → ℕ
height none = 0
height (leaf s ts more) = max 1 (height more)
height (inner d s children more) = max (suc (height children)) (height more)

-- The bytes by which the addition of x makes tries longer: a suffix, or a leaf and a new parent, or a leaf, each with what
-- remains of the key there
unfoldable pub growth : ℕ → ℕ → Above → Forest → Key → ℕ
growth h u above none x = h + u + total x.strings
growth h u above (leaf s ts more) x =
    outcome above s (leaf s ts more) x.strings
    (u + total (strip s x.strings))
    (h + h + u + total (strip (commons s x.strings) x.strings))
    (h + u + total x.strings)
    (growth h u above more x)
growth h u above (inner d s children more) x =
    outcome above s (inner d s children more) x.strings
    (growth h u (below d) children (remains s x))
    (h + h + u + total (strip (commons s x.strings) x.strings))
    (h + u + total x.strings)
    (growth h u above more x)
