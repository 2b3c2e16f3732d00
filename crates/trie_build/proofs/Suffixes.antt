-- The suffix of a slot: what remains of its strings are stretches of it. Assumes nothing.
use mathlib.Core.Path.{◌≡◌, refl, ap, ◌∙◌}
use Prim.Native.Nat.{ℕ, ◌+◌, ◌-◌, ◌≤◌}
use mathlib.Core.List.{List, [], ◌∷◌, ◌++◌, append-nil}
use native.Mathlib.Omega.{arith}
use native.Mathlib.Nat.{zero-add}
use lib.ListN.{length, get_or, drop, length-append}
use lib.Seq.{drop-drop}
use Rattle.buffer.specs.Lists.{flat}
use Rattle.buffer.specs.Splice.{region}
use Rattle.buffer.proofs.Splice.{length_region}
use Rattle.rows.specs.Sizes.{value_size, reference_size, reference_at, length_at, path_at}
use Rattle.entries.specs.Slots.{slot_size, slot_key}
use Rattle.trie_theory.specs.Forest.{Key}
use Rattle.trie_theory.specs.Encode.{suffix_bytes}
use Rattle.trie_read.specs.Shape.{key_of}
use Rattle.trie_build.specs.Nodes.{rest, Behind}
use Rattle.trie_sets.proofs.Slotted.{drop_take}

-- what is left of a stretch
pub drop_region : (s : List ℕ) (a m b : ℕ) → b ≤ m → drop b (region s a m) ≡ region s (a + b) (m - b)
drop_region s a m b h = rw (drop_take b m (m - b) (drop a s) (omega arith), drop-drop b a s)

length_suffix : (v p r : List ℕ) → length (suffix_bytes (key_of v p r)) ≡ 2 + length r + length v + length p
length_suffix v p r = ap length (bytes v p r) ∙ simp length-append (omega arith)
  where
    bytes : (v p r : List ℕ) → suffix_bytes (key_of v p r) ≡ (length v ∷ length p ∷ []) ++ (r ++ (v ++ p))
    bytes v p r = unfold suffix_bytes in unfold flat in rw append-nil

module _ (r : List ℕ) (value path : ℕ) (whole : length r ≡ slot_size) (most : value ≤ value_size) (b : Behind r path) where
  abbrev ends : ℕ
  ends = get_or r length_at 0 + 1

  pub rest_is : rest value path r ≡ key_of (region r value (value_size - value)) (region r (path_at + path) (ends - path)) (region r reference_at reference_size)
  unfolding rest slot_key
  rest_is = rw (drop_region r 0 value_size value most, drop_region r path_at ends path b.0, zero-add value) refl

  pub value_long : length (region r value (value_size - value)) ≡ value_size - value
  value_long = length_region r value (value_size - value) (omega arith)

  pub path_long : length (region r (path_at + path) (ends - path)) ≡ ends - path
  path_long = length_region r (path_at + path) (ends - path) (omega (arith, b.0, b.1))

  pub reference_long : length (region r reference_at reference_size) ≡ reference_size
  reference_long = length_region r reference_at reference_size (omega arith)

  pub length_rest : length (suffix_bytes (rest value path r)) ≡ 22 + (value_size - value) + (ends - path)
  length_rest = ap (λ (x : Key). length (suffix_bytes x)) rest_is ∙ length_suffix _ _ _ ∙ rw (value_long, path_long, reference_long) refl
