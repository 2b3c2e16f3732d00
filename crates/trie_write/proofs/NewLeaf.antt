-- The bytes of a leaf that has all bytes of its key: its front, and a suffix of a reference alone. Assumes nothing.
use mathlib.Core.Path.{◌≡◌, refl, ap, ◌∙◌}
use Prim.Native.Nat.{ℕ, ◌+◌}
use mathlib.Core.List.{List, [], ◌∷◌, ◌++◌, append-nil}
use native.Mathlib.Omega.{arith}
use lib.ListN.{length, length-append}
use lib.Seq.{drop-length}
use Rattle.buffer.specs.Lists.{flat}
use Rattle.trie_theory.specs.Forest.{Forest, none}
use Rattle.trie_theory.specs.Strings.{strip, remains, total}
use Rattle.trie_theory.proofs.Encode.{length_suffix}
use Rattle.trie_theory.specs.SmallTrie.{new_leaf}
use Rattle.trie_theory.specs.Encode.{encode, suffix_bytes}
use Rattle.trie_read.specs.Shape.{key_of}
use Rattle.trie_read.specs.Heads.{front}
use Rattle.trie_read.proofs.Node.{node_is, length_front}

length_reference : (r : List ℕ) → length (suffix_bytes (key_of [] [] r)) ≡ 2 + length r
unfolding suffix_bytes flat
length_reference r = rw (append-nil r) (omega arith)

-- before later siblings
pub new_leaf_bytes : (v p r : List ℕ) (more : Forest) → length r ≡ 20
    → encode (new_leaf (key_of v p r) more) ≡ front 0 (v ∷ p ∷ []) 22 ++ (suffix_bytes (key_of [] [] r) ++ encode more)
unfolding encode new_leaf remains strip flat
new_leaf_bytes v p r more h =
    let body = suffix_bytes (key_of [] [] r) in
    let n : length (body ++ []) ≡ 22 = omega (arith, length-append body [], length_reference r) in
    rw (drop-length v, drop-length p) (node_is 0 (v ∷ p ∷ []) (body ++ []) (encode more) refl ∙ rw (n, append-nil body))

pub length_new_leaf : (v p r : List ℕ) → length r ≡ 20 → length (encode (new_leaf (key_of v p r) none)) ≡ 29 + length v + length p
unfolding encode
length_new_leaf v p r h =
    let first = front 0 (v ∷ p ∷ []) 22 in
    let last = suffix_bytes (key_of [] [] r) in
    omega (arith, ap length (new_leaf_bytes v p r none h), length-append first (last ++ []), length_front 0 (v ∷ p ∷ []) 22, length-append last [], length_reference r)

pub length_suffix_bytes : (v p r : List ℕ) → length r ≡ 20 → length (suffix_bytes (key_of v p r)) ≡ 22 + length v + length p
unfolding total
length_suffix_bytes v p r h = omega (arith, length_suffix 2 (key_of v p r) refl h)
