-- The discriminative position of keys (Definition 5).
use Rattle.std.specs.Prelude.{ℕ, ◌+◌, Bool, List, [], ◌∷◌, length, ltb}
use Rattle.buffer.specs.Lists.{all}
use Rattle.trie_theory.specs.Forest.{Strings, Key}
use Rattle.trie_theory.specs.Strings.{commons, strip, at, first}

-- the bytes with which the strings s and all the keys begin alike
unfoldable pub narrow : Strings → List Key → Strings
narrow s [] = s
narrow s (x ∷ xs) = commons x.strings (narrow s xs)

-- the longest common prefix of keys, in each dimension
unfoldable pub shared : List Key → Strings
shared [] = []
shared (x ∷ xs) = narrow x.strings xs

-- the first position at which two of the keys differ in dimension d, counted from 1; one past the end where all are equal
unfoldable pub position : ℕ → List Key → ℕ
position d ks = length (at d (shared ks)) + 1

-- the byte of x in dimension d behind the bytes p; 256 where there is none
unfoldable pub byte : ℕ → Strings → Key → ℕ
byte d p x = first d (strip p x.strings)

-- The keys differ in dimension d: each has a byte at the discriminative position. For strings of which none begins
-- another, as values and ended paths are, this says that they are not all equal (proofs/Differ.antt)
unfoldable pub differ : ℕ → List Key → Bool
differ d ks = let p = shared ks in all (λ x. ltb (byte d p x) 256) ks
