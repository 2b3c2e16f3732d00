-- What strings have in common and what is left of them, in each dimension.
use Rattle.std.specs.Prelude.{ℕ, zero, suc, ◌+◌, Bool, true, false, cond, ◌&&◌, List, [], ◌∷◌, length, drop, get_or, eqb}
use Rattle.trie_theory.specs.Forest.{Strings, Key}

-- s begins with p
unfoldable pub begins : List ℕ → List ℕ → Bool
begins [] s = true
begins (a ∷ p) [] = false
begins (a ∷ p) (b ∷ s) = eqb a b && begins p s

-- the strings s begin, in each dimension, with those of p
unfoldable pub all_begin : Strings → Strings → Bool
all_begin [] ss = true
all_begin (p ∷ ps) [] = false
all_begin (p ∷ ps) (s ∷ ss) = begins p s && all_begin ps ss

-- the bytes of s before its first difference from t, or all of them where none differs
unfoldable pub common : List ℕ → List ℕ → List ℕ
common [] t = []
common (a ∷ s) [] = []
common (a ∷ s) (b ∷ t) = cond (eqb a b) (a ∷ common s t) []

-- the same in each dimension
unfoldable pub commons : Strings → Strings → Strings
commons [] ts = []
commons (s ∷ ss) [] = []
commons (s ∷ ss) (t ∷ ts) = common s t ∷ commons ss ts

-- what is left of strings behind the bytes p
unfoldable pub strip : Strings → Strings → Strings
strip [] ss = ss
strip (p ∷ ps) [] = []
strip (p ∷ ps) (s ∷ ss) = drop (length p) s ∷ strip ps ss

-- what remains of a key behind the bytes p
unfoldable pub remains : Strings → Key → Key
remains p x = record { strings = strip p x.strings; reference = x.reference }

-- the string of dimension d
abbrev pub at : ℕ → Strings → List ℕ
at d ss = get_or ss d []

-- the first byte in dimension d; 256 where there is none
unfoldable pub first : ℕ → Strings → ℕ
first d [] = 256
first zero ([] ∷ ss) = 256
first zero ((b ∷ s) ∷ ss) = b
first (suc d) (s ∷ ss) = first d ss

-- the bytes in all dimensions together
unfoldable pub total : Strings → ℕ
total [] = 0
total (s ∷ ss) = length s + total ss
