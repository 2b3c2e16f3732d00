-- What an addition makes of bytes: a stretch is replaced by a longer one, and what stands behind moves on. Assumes nothing: these are definitions.
use Rattle.std.specs.Prelude.{ℕ, suc, ◌+◌, ◌-◌, ◌≤◌, ◌≡◌, cond, List, [], ◌∷◌, ◌++◌, length, take, drop, ltb, Some}
use Rattle.buffer.specs.Splice.{splice, region}
use Rattle.trie_theory.specs.Forest.{Strings, Key, none}
use Rattle.trie_theory.specs.Strings.{common, commons, strip, remains, first}
use Rattle.trie_theory.specs.Dimensions.{Above, branching}
use Rattle.trie_read.specs.Sizes.{head_size}
use Rattle.trie_read.specs.Shape.{above_of, part}
use Rattle.trie_read.specs.Kinds.{kind_of_byte, byte_of_kind}
use Rattle.trie_read.specs.Heads.{front}
use Rattle.trie_read.specs.declared.kind.Kind.TheVariants.{Inner}
use Rattle.trie_theory.specs.SmallTrie.{new_leaf, differing}
use Rattle.trie_theory.specs.Encode.{encode, node_bytes}
use Rattle.trie_read.specs.declared.node_place.NodePlace.{NodePlace}
use Rattle.trie_add.specs.declared.split.Cut.{Cut}

-- the bytes from `at` to `next` are replaced by `own`, and those from there to `used` moved on by r
pub record Replaced (s : List ℕ) (at next used : ℕ) (own s' : List ℕ) (r : ℕ) : Type 0 where
  pub is : s' ≡ splice s at (own ++ region s next (used - next))
  pub long : at + length own ≡ next + r

-- the bytes of the new parent of a node of a kind with the strings s and a body, and of its children: the node with what is left of s,
-- and a leaf for the key x, ascending
unfoldable pub split_bytes : Above → ℕ → Strings → List ℕ → Key → List ℕ
split_bytes above kind s body x =
    let p = commons s x.strings in
    let d = differing above (strip p s) in
    let old = node_bytes kind (strip p s) body in
    let new = encode (new_leaf (remains p x) none) in
    node_bytes (suc d) p (cond (ltb (first d (strip p x.strings)) (first d (strip p s))) (new ++ old) (old ++ new))

-- the cut of a node with the strings nv and np, for a key with the strings v and p
pub record CutFor (above : Above) (nv np v p : List ℕ) (c : Cut) : Type 0 where
  pub in_value : c.value ≡ length (common nv v)
  pub in_path : c.path ≡ length (common np p)
  pub branches : Inner c.dimension ≡ kind_of_byte (suc (differing above (drop c.value nv ∷ drop c.path np ∷ [])))
  pub before : c.first ≡ ltb (branching (above_of (Some c.dimension)) (drop c.value v ∷ drop c.path p ∷ [])) (branching (above_of (Some c.dimension)) (drop c.value nv ∷ drop c.path np ∷ []))
  pub node_value : c.value ≤ length nv
  pub node_path : c.path ≤ length np
  pub key_value : c.value ≤ length v
  pub key_path : c.path ≤ length p

-- the front of a new parent, whose body has `size` bytes, and that of the node below it, which is cut so
abbrev pub cut_fronts : List ℕ → NodePlace → Cut → ℕ → List ℕ
cut_fronts s node c size =
    let v = part (node.at + head_size) node.path s in
    let p = part node.path node.body s in
    front (byte_of_kind (Inner c.dimension)) (take c.value v ∷ take c.path p ∷ []) size
    ++ front (byte_of_kind node.kind) (drop c.value v ∷ drop c.path p ∷ []) (node.next - node.body)
