-- A trie in bytes: its nodes in pre-order, without pointers and gaps.
--
--   node   = dimension (1 V, 2 path, .., 0 a leaf), the length of each string, the length of the body (4 bytes), the strings, the body
--   body   = the children of an inner node, or the suffixes of a leaf
--   suffix = the length of each string, the reference, the strings
use Rattle.std.specs.Prelude.{ℕ, suc, ◌≡◌, List, [], ◌∷◌, ◌++◌, map, length}
use Rattle.buffer.specs.Sizes.{reference_size}
use Rattle.buffer.specs.Numbers.{bytes_of}
use Rattle.trie_theory.specs.Sound.{Wide}
use Rattle.trie_theory.specs.Forest.{Strings, Key, Forest, none, leaf, inner}
use Rattle.buffer.specs.Lists.{All, flat}

unfoldable pub suffix_bytes : Key → List ℕ
suffix_bytes t = map length t.strings ++ (t.reference ++ flat t.strings)

-- a node of a kind with the strings s and a body
unfoldable pub node_bytes : ℕ → Strings → List ℕ → List ℕ
node_bytes kind s body = kind ∷ (map length s ++ (bytes_of 4 (length body) ++ (flat s ++ body)))

unfoldable pub encode : Forest → List ℕ
encode none = []
encode (leaf s ts more) = node_bytes 0 s (flat (map suffix_bytes ts)) ++ encode more
encode (inner d s children more) = node_bytes (suc d) s (encode children) ++ encode more

-- a reference has 20 bytes
abbrev pub WholeReference : Key → Type 0
WholeReference x = length x.reference ≡ reference_size

-- what the encoding asks for: n strings in each node and suffix, and references of 20 bytes
unfoldable pub Regular : ℕ → Forest → Type 0
Regular n none = Unit {0}
Regular n (leaf s ts more) = (length s ≡ n) × All (λ t. Wide n t × WholeReference t) ts × Regular n more
Regular n (inner d s children more) = (length s ≡ n) × Regular n children × Regular n more
