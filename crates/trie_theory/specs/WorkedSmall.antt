-- Small tries node by node: the three additions of document 01's listing, and every case of the branching dimension.
use Rattle.std.specs.Prelude.{◌≡◌, refl, ℕ, Bool, true, false, not, ◌&&◌, ◌||◌, List, [], ◌∷◌, ◌++◌, eqb}
use Prim.Native.String.{String}
use Rattle.trie_theory.specs.Forest.{Strings, Key, Forest, none, leaf, inner}
use Rattle.trie_theory.specs.Dimensions.{root}
use Rattle.trie_theory.specs.SmallTrie.{small_trie}
use Rattle.buffer.specs.Lists.{any, same}
use Rattle.trie_theory.specs.Strings.{begins, at}
use Rattle.trie_theory.specs.Lookup.{same_key, member}
use Rattle.trie_theory.specs.Search.{found, nodes_entered}
use Rattle.trie_theory.specs.Encode.{encode}
use Rattle.trie_theory.specs.Computing.{of_a_small_trie, of_a_search, of_bytes}
use Rattle.trie_theory.specs.Worked.{text, ended, value, reference, pair, entry, nine, r1, r2, r3, r4, r5, r6, r7}

-- six zero bytes, a value's first
abbrev pub six : List ℕ
six = 0 ∷ 0 ∷ 0 ∷ 0 ∷ 0 ∷ 0 ∷ []

-- a key with a value below 65536 and a reference that is told by its first byte
abbrev pub key : ℕ → ℕ → String → ℕ → Key
key a b path r = entry (six ++ (a ∷ b ∷ [])) (ended path) (reference r 0 0 0 0)

-- a leaf with one reference, and with one such reference
abbrev pub held : List ℕ → List ℕ → List ℕ → Forest → Forest
held v p r more = leaf (pair v p) (entry [] [] r ∷ []) more

abbrev pub one : List ℕ → List ℕ → ℕ → Forest → Forest
one v p r more = held v p (reference r 0 0 0 0) more

-- the listing: 7 /north/pond, 7 /north/edge, 9 /south/edge
abbrev pub pond : Key
pond = key 0 7 "/north/pond" 1

abbrev pub edge : Key
edge = key 0 7 "/north/edge" 1

abbrev pub south : Key
south = key 0 9 "/south/edge" 2

-- one leaf takes the whole key
pub one_leaf : small_trie (pond ∷ []) ≡ one (six ++ (0 ∷ 7 ∷ [])) (ended "/north/pond") 1 none
unfolding of_a_small_trie
one_leaf = refl

-- only the paths differ: the parent branches there and takes the whole value
pub path_differs :
    small_trie (pond ∷ edge ∷ [])
    ≡ inner 1 (pair (six ++ (0 ∷ 7 ∷ [])) (text "/north/")) (one [] (ended "edge") 1 (one [] (ended "pond") 1 none)) none
unfolding of_a_small_trie
path_differs = refl

-- both differ at the root: it branches in V
pub both_at_root :
    small_trie (pond ∷ edge ∷ south ∷ [])
    ≡ inner 0 (pair (six ++ (0 ∷ [])) (text "/"))
    (inner 1 (pair (7 ∷ []) (text "north/")) (one [] (ended "edge") 1 (one [] (ended "pond") 1 none))
    (one (9 ∷ []) (ended "south/edge") 2
    none)) none
unfolding of_a_small_trie
both_at_root = refl

-- the same path and value with another reference: the leaf takes it last
pub one_more_reference :
    small_trie (pond ∷ edge ∷ key 0 7 "/north/pond" 9 ∷ [])
    ≡ inner 1 (pair (six ++ (0 ∷ 7 ∷ [])) (text "/north/"))
    (one [] (ended "edge") 1
    (leaf (pair [] (ended "pond")) (entry [] [] (reference 1 0 0 0 0) ∷ entry [] [] (reference 9 0 0 0 0) ∷ [])
    none)) none
unfolding of_a_small_trie
one_more_reference = refl

-- both differ below a node that branches in V: the new parent branches in the path
pub both_below_value :
    small_trie (key 1 1 "/a" 1 ∷ key 2 1 "/b" 2 ∷ key 1 2 "/c" 3 ∷ [])
    ≡ inner 0 (pair six (text "/"))
    (inner 1 (pair (1 ∷ []) []) (one (1 ∷ []) (ended "a") 1 (one (2 ∷ []) (ended "c") 3 none))
    (one (2 ∷ 1 ∷ []) (ended "b") 2
    none)) none
unfolding of_a_small_trie
both_below_value = refl

-- the root is split in the path alone: its old node keeps no byte of the value
abbrev pub path_split : List Key
path_split = key 1 1 "/a/x" 1 ∷ key 2 1 "/a/y" 2 ∷ key 1 1 "/b/z" 3 ∷ []

abbrev pub old_node : Forest → Forest
old_node more = inner 0 (pair [] (text "a/")) (one (1 ∷ 1 ∷ []) (ended "x") 1 (one (2 ∷ 1 ∷ []) (ended "y") 2 none)) more

pub old_keeps_nothing :
    small_trie path_split ≡ inner 1 (pair six (text "/")) (old_node (one (1 ∷ 1 ∷ []) (ended "b/z") 3 none)) none
unfolding of_a_small_trie
old_keeps_nothing = refl

-- both differ below a node that branches in the path: the new parent branches in V
pub both_below_path :
    small_trie (path_split ++ (key 1 2 "/b/w" 4 ∷ []))
    ≡ inner 1 (pair six (text "/"))
    (old_node
    (inner 0 (pair (1 ∷ []) (text "b/")) (one (1 ∷ []) (ended "z") 3 (one (2 ∷ []) (ended "w") 4 none))
    none)) none
unfolding of_a_small_trie
both_below_path = refl

-- the nine keys of Table 1, added in its sequence; the level of the same keys is Table 5
abbrev pub days : Forest
days =
    inner 1 (pair (0x94 ∷ []) []) (held (0x2A ∷ []) (ended "Map.go") r1 (held (0x8C ∷ []) (ended "Schema.go") r3 none))
    (inner 1 (pair (0x97 ∷ 0x8B ∷ []) (text "Schedule")) (held [] (ended ".go") r7 (held [] (ended "r.go") r7 none))
    none)

abbrev pub ext : Forest
ext =
    held (0xF2 ∷ 0x9C ∷ 0x59 ∷ []) (ended "3/inode.c") r4
    (held (0xBD ∷ 0x23 ∷ 0xC2 ∷ []) (ended "4/inode.h") r5
    none)

abbrev pub latest : Forest
latest =
    inner 1 (pair (0x8D ∷ 0xC4 ∷ []) (text "crypto/ecc.")) (held [] (ended "c") r2 (held [] (ended "h") r2 none))
    (held (0x3D ∷ 0x5A ∷ []) (ended "fs/ext4/inode.c") r6
    none)

pub nine_keys :
    small_trie nine
    ≡ inner 0 (pair (0 ∷ 0 ∷ 0 ∷ 0 ∷ []) (text "/"))
    (inner 0 (pair (0x5D ∷ 0xA8 ∷ []) (text "Sources/")) days
    (inner 1 (pair (0x5E ∷ []) (text "fs/ext")) ext
    (inner 1 (pair (0x5F ∷ 0xBD ∷ []) []) latest
    none))) none
unfolding of_a_small_trie
nine_keys = refl

-- the lookup walks to what was added, with its reference, and to nothing else
pub looked_up :
    (member root (small_trie (pond ∷ edge ∷ south ∷ [])) edge ≡ true)
    × (member root (small_trie (pond ∷ edge ∷ south ∷ [])) (key 0 7 "/north/edge" 2) ≡ false)
    × (member root (small_trie (pond ∷ edge ∷ [])) south ≡ false)
unfolding of_a_search
looked_up = (refl, refl, refl)

-- The search of the listing, 0 to 8 and a path that ends in /edge: bytes can be continued where the value begins one of 0 to 8
-- and the path has not ended, or is the one that matches
abbrev pub goes_on : Strings → Bool
goes_on k =
    any (λ v. begins (at 0 k) (value 0 0 0 v)) (0 ∷ 1 ∷ 2 ∷ 3 ∷ 4 ∷ 5 ∷ 6 ∷ 7 ∷ 8 ∷ [])
    && (not (any (λ b. eqb b 0) (at 1 k)) || same eqb (at 1 k) (ended "/north/edge"))

abbrev pub is_edge : Key → Bool
is_edge x = same_key x edge

-- one row, and four nodes: the root, 07, and both below it
pub searched :
    (found goes_on is_edge root [] (small_trie (pond ∷ edge ∷ south ∷ [])) ≡ edge ∷ [])
    × (nodes_entered goes_on root [] (small_trie (pond ∷ edge ∷ south ∷ [])) ≡ 4)
unfolding of_a_search
searched = (refl, refl)

-- the bytes of a leaf of no value byte, the path p and the reference 1
abbrev pub leaf_bytes : String → List ℕ
leaf_bytes p = 0 ∷ 0 ∷ 5 ∷ 0 ∷ 0 ∷ 0 ∷ 22 ∷ (ended p ++ (0 ∷ 0 ∷ reference 1 0 0 0 0))

-- in bytes: a node that branches in the path (2), 8 value and 7 path bytes, a body of 68, its strings, and two leaves
pub in_bytes :
    encode (small_trie (pond ∷ edge ∷ []))
    ≡ 2 ∷ 8 ∷ 7 ∷ 0 ∷ 0 ∷ 0 ∷ 68 ∷ (six ++ (0 ∷ 7 ∷ (text "/north/" ++ (leaf_bytes "edge" ++ leaf_bytes "pond"))))
unfolding of_bytes
in_bytes = refl
