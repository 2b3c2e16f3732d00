-- Keys of entries: a test for each dimension, such that no string that passes is a proper beginning of another.
use Rattle.std.specs.Prelude.{ℕ, zero, suc, ◌+◌, ◌≤◌, ◌<◌, ◌≡◌, Bool, true, false, ◌&&◌, List, [], ◌∷◌, ◌++◌, length, eqb}
use Rattle.trie_theory.specs.Forest.{Strings, Key, Forest, keys}
use Rattle.buffer.specs.Sizes.{value_size, reference_size, path_limit}
use Rattle.buffer.specs.Lists.{All}
use Rattle.trie_theory.specs.Strings.{at}
use Rattle.trie_theory.specs.Dimensions.{root}
use Rattle.trie_theory.specs.Sound.{Sound, EmptySuffixes}

-- each string passes the test of its dimension, and there are as many
unfoldable pub complete : List (List ℕ → Bool) → Strings → Bool
complete [] [] = true
complete [] (s ∷ ss) = false
complete (c ∷ cs) [] = false
complete (c ∷ cs) (s ∷ ss) = c s && complete cs ss

-- no string that passes is a proper beginning of one that passes
unfoldable pub Stops : (List ℕ → Bool) → Type 0
Stops c = (u v : List ℕ) → c u ≡ true → c (u ++ v) ≡ true → v ≡ []

-- a value has eight bytes
unfoldable pub is_value : List ℕ → Bool
is_value s = eqb (length s) value_size

-- a path ends with its only byte 0
unfoldable pub is_path : List ℕ → Bool
is_path [] = false
is_path (zero ∷ []) = true
is_path (zero ∷ b ∷ s) = false
is_path (suc a ∷ s) = is_path s

-- the two dimensions
unfoldable pub dims : List (List ℕ → Bool)
dims = is_value ∷ is_path ∷ []

-- the most bytes of the strings of an entry's key: value, path, end byte
abbrev pub key_limit : ℕ
key_limit = value_size + (path_limit + 1)

-- the key of an entry: a value, a path of at most 200 bytes with its end byte, and a reference of 20
pub record OfEntry (x : Key) : Type 0 where
  pub whole : complete dims x.strings ≡ true
  pub short : length (at 1 x.strings) ≤ path_limit + 1
  pub bytes : All (All (λ b. b < 256)) x.strings
  pub named : length x.reference ≡ reference_size

-- a small trie, our own or another's: sound, and from the root to each leaf the strings join to one whole key
pub record Small (cs : List (List ℕ → Bool)) (t : Forest) : Type 0 where
  pub sound : Sound (length cs) root t
  pub empty_suffixes : EmptySuffixes t
  pub whole : All (λ x. complete cs x.strings ≡ true) (keys [] t)
