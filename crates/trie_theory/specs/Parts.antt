-- The partition of keys by the byte at their discriminative position (Definition 6).
use Rattle.std.specs.Prelude.{ℕ, zero, suc, List, [], ◌∷◌, eqb}
use Rattle.trie_theory.specs.Forest.{Strings, Key}
use Rattle.buffer.specs.Lists.{pick}
use Rattle.trie_theory.specs.Position.{shared, byte}

-- the keys with byte b behind the bytes p in dimension d, in their sequence
unfoldable pub keep : ℕ → Strings → ℕ → List Key → List Key
keep d p b ks = pick (λ x. eqb (byte d p x) b) ks

-- a part, unless it is empty, before others
unfoldable pub filled : List Key → List (List Key) → List (List Key)
filled [] ps = ps
filled (x ∷ xs) ps = (x ∷ xs) ∷ ps

-- the parts of f bytes, ascending from byte b
unfoldable pub parts_from : ℕ → Strings → ℕ → ℕ → List Key → List (List Key)
parts_from d p zero b ks = []
parts_from d p (suc f) b ks = filled (keep d p b ks) (parts_from d p f (suc b) ks)

-- the parts of all 256 bytes
unfoldable pub parts : ℕ → List Key → List (List Key)
parts d ks = parts_from d (shared ks) 256 0 ks
