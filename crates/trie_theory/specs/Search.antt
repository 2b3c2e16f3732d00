-- A search of tries: which nodes it enters, how many, and what it finds. `reach` says that known bytes can be continued
-- to a key that matches.
use Rattle.std.specs.Prelude.{ℕ, zero, suc, ◌+◌, Bool, true, cond, List, [], ◌∷◌, ◌++◌, map}
use Rattle.trie_theory.specs.Forest.{Strings, Key, Forest, none, leaf, inner, join, under}
use Rattle.buffer.specs.Lists.{pick}
use Rattle.trie_theory.specs.Dimensions.{Above, root, below}

-- the known bytes k with the first byte of s added in dimension d
unfoldable pub branch : ℕ → Strings → Strings → Strings
branch d [] ss = []
branch d (k ∷ ks) [] = k ∷ ks
branch zero (k ∷ ks) ([] ∷ ss) = k ∷ ks
branch zero (k ∷ ks) ((b ∷ s) ∷ ss) = (k ++ (b ∷ [])) ∷ ks
branch (suc d) (k ∷ ks) (s ∷ ss) = k ∷ branch d ks ss

-- A node as a search comes to it: a root, or a child, with the bytes known at its parent and the branching byte added
pub data Node : Type 0 where
  top : Node
  child : (known : Strings) → Node

-- the node that has the strings s, where the bytes k are known above it
abbrev pub node : Above → Strings → Strings → Node
node root k s = top
node (below d) k s = child (branch d k s)

-- the nodes of tries, k known above them: each, and then its children
unfoldable pub nodes_in : Above → Strings → Forest → List Node
nodes_in above k none = []
nodes_in above k (leaf s ts more) = node above k s ∷ nodes_in above k more
nodes_in above k (inner d s children more) = node above k s ∷ (nodes_in (below d) (join k s) children ++ nodes_in above k more)

module _ (reach : Strings → Bool) where
  -- the rule of entering: a root is entered; a child exactly when the bytes known there can be continued
  abbrev pub admitted : Node → Bool
  admitted top = true
  admitted (child known) = reach known

  -- .. of the node that has the strings s
  unfoldable pub enters : Above → Strings → Strings → Bool
  enters above k s = admitted (node above k s)

  -- The number of nodes entered by a search, which walks from each node that it enters to its children. They are exactly those that the rule admits,
  -- walked to or not, where what can be continued could be continued before (`entered_admitted`)
  unfoldable pub nodes_entered : Above → Strings → Forest → ℕ
  nodes_entered above k none = 0
  nodes_entered above k (leaf s ts more) = cond (enters above k s) 1 0 + nodes_entered above k more
  nodes_entered above k (inner d s children more) =
      cond (enters above k s) (1 + nodes_entered (below d) (join k s) children) 0 + nodes_entered above k more

  -- the keys found: those of the leaves entered that match
  unfoldable pub found : (Key → Bool) → Above → Strings → Forest → List Key
  found matching above k none = []
  found matching above k (leaf s ts more) =
      cond (enters above k s) (pick matching (map (under (join k s)) ts)) [] ++ found matching above k more
  found matching above k (inner d s children more) =
      cond (enters above k s) (found matching (below d) (join k s) children) [] ++ found matching above k more
