-- What the private functions of the builder ask for and promise each other. Callers of `build_level` need none of it. Assumes nothing: these
-- are definitions.
use Rattle.std.specs.Prelude.{ℕ, zero, suc, ◌+◌, ◌≤◌, ◌<◌, ◌≡◌, true, List, [], ◌∷◌, length, take, drop, map}
use Rattle.buffer.specs.Lists.{all}
use Rattle.buffer.specs.Sizes.{four_byte_limit}
use Rattle.buffer.specs.Splice.{splice}
use Rattle.rows.specs.Sizes.{path_at}
use Rattle.entries.specs.Slots.{slot_key, short_path}
use Rattle.trie_theory.specs.Forest.{Strings, Key, none}
use Rattle.trie_theory.specs.Strings.{at}
use Rattle.trie_theory.specs.Dimensions.{Above}
use Rattle.trie_theory.specs.Position.{shared}
use Rattle.trie_theory.specs.Level.{trie}
use Rattle.trie_theory.specs.Encode.{encode}
use Rattle.trie_read.specs.Heads.{front}
use Rattle.trie_read.specs.Kinds.{byte_of_kind}
use Rattle.trie_read.specs.declared.kind.Kind.{Kind}
use Rattle.trie_sets.specs.Positions.{slot_byte, OfTwo, Split}

-- the first of the bytes that keys share: those that the node above knows
unfoldable pub known : ℕ → ℕ → List Key → Strings
known value path ks = take value (at 0 (shared ks)) ∷ take path (at 1 (shared ks)) ∷ []

-- the bytes of the trie of keys below what stands above and knows so many bytes
unfoldable pub trie_bytes : ℕ → Above → ℕ → ℕ → List Key → List ℕ
trie_bytes τ above value path ks = encode (trie 2 τ above (known value path ks) ks none)

-- where in a slot the byte stands at which the keys of a node that branches in a dimension part
abbrev pub column_of : ℕ → ℕ → ℕ → ℕ
column_of zero value path = value
column_of (suc d) value path = path_at + path

-- the first r of slots have one byte in a column, and the next another
pub record Run (rs : List (List ℕ)) (column r : ℕ) : Type 0 where
  pub some : 0 < r
  pub most : r ≤ length rs
  pub alike : (k : ℕ) → k < r → slot_byte rs k column ≡ slot_byte rs 0 column
  pub ends : r < length rs → slot_byte rs r column ≡ slot_byte rs 0 column → ⊥

-- what the builder asks for: a set of slots, below what stands above and knows so many bytes, and room for its trie
pub record Ready (room : ℕ) (rs : List (List ℕ)) (τ : ℕ) (above : Above) (v p : ℕ) : Type 0 where
  pub some : 0 < length rs
  pub two : OfTwo above
  pub short : all short_path rs ≡ true
  pub value_known : v ≤ length (at 0 (shared (map slot_key rs)))
  pub path_known : p ≤ length (at 1 (shared (map slot_key rs)))
  pub fits : length (trie_bytes τ above v p (map slot_key rs)) ≤ room
  pub small : length (trie_bytes τ above v p (map slot_key rs)) < four_byte_limit

-- the set is split, and s' is s with its node up to the body, whose length is not known yet
pub record Opened (s : List ℕ) (rs : List (List ℕ)) (τ : ℕ) (above : Above) (v p : ℕ) (s' : List ℕ) (kind : Kind) (value path : ℕ) : Type 0 where
  pub split : Split τ above (map slot_key rs) kind value path
  pub is : let q = shared (map slot_key rs) in s' ≡ splice s 0 (front (byte_of_kind kind) (drop v (at 0 q) ∷ drop p (at 1 q) ∷ []) 0)
