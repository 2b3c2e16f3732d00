-- Keys and tries. A key has a string for each dimension (the value first, then the path with its end byte) and a reference.
-- A node carries a string for each dimension too: the bytes that all keys below it have there behind those of the nodes above.
use Rattle.std.specs.Prelude.{ℕ, List, [], ◌∷◌, ◌++◌, map}

-- a string for each dimension
abbrev pub Strings : Type 0
Strings = List (List ℕ)

pub record Key : Type 0 where
  pub strings : Strings
  pub reference : List ℕ

-- Tries side by side: the first, and its later siblings. A leaf has suffixes, what remains of each key behind the leaf's
-- strings; an inner node branches in a dimension (0 the value, 1 the path) and has children
pub data Forest : Type 0 where
  none : Forest
  leaf : Strings → List Key → Forest → Forest
  inner : ℕ → Strings → Forest → Forest → Forest

-- strings joined in each dimension
unfoldable pub join : Strings → Strings → Strings
join [] ss = ss
join (k ∷ ks) [] = k ∷ ks
join (k ∷ ks) (s ∷ ss) = (k ++ s) ∷ join ks ss

-- the key that remains as t behind the bytes k
unfoldable pub under : Strings → Key → Key
under k t = record { strings = join k t.strings; reference = t.reference }

-- the keys of tries, where the bytes k are known above them
unfoldable pub keys : Strings → Forest → List Key
keys k none = []
keys k (leaf s ts more) = map (under (join k s)) ts ++ keys k more
keys k (inner d s children more) = keys (join k s) children ++ keys k more

-- the strings of the tries side by side
unfoldable pub tops : Forest → List Strings
tops none = []
tops (leaf s ts more) = s ∷ tops more
tops (inner d s children more) = s ∷ tops more
