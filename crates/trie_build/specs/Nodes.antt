-- The suffixes that the builder writes. Assumes nothing: these are definitions.
use Rattle.std.specs.Prelude.{ℕ, ◌+◌, ◌≤◌, List, map, get_or, drop}
use Rattle.buffer.specs.Lists.{flat}
use Rattle.matcher.specs.Bytes.{path_limit}
use Rattle.rows.specs.Sizes.{length_at}
use Rattle.trie_theory.specs.Forest.{Key}
use Rattle.trie_theory.specs.Strings.{at}
use Rattle.trie_theory.specs.Encode.{suffix_bytes}
use Rattle.entries.specs.Slots.{slot_key}
use Rattle.trie_read.specs.Shape.{key_of}

-- what remains of the key of a slot behind so many bytes of its value and of its path
unfoldable pub rest : ℕ → ℕ → List ℕ → Key
rest value path r = key_of (drop value (at 0 (slot_key r).strings)) (drop path (at 1 (slot_key r).strings)) (slot_key r).reference

-- the suffixes of slots
unfoldable pub rests_bytes : ℕ → ℕ → List (List ℕ) → List ℕ
rests_bytes value path rs = flat (map (λ r. suffix_bytes (rest value path r)) rs)

-- the path of a slot has that many bytes, and is not too long
abbrev pub Behind : List ℕ → ℕ → Type 0
Behind r path = (path ≤ get_or r length_at 0 + 1) × (get_or r length_at 0 ≤ path_limit)
