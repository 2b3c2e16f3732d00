-- The nine keys of Table 1 and what is computed from them: Table 3 and P1 to P4, Table 5. And the level drawn in Level.antt.
use Rattle.std.specs.Prelude.{◌≡◌, refl, ℕ, List, [], ◌∷◌, ◌++◌, map, replicate}
use Prim.Native.String.{String}
pub use Rattle.buffer.specs.Text.{text}
use Rattle.trie_theory.specs.Forest.{Strings, Key, Forest, none, leaf, inner}
use Rattle.trie_theory.specs.Position.{position}
use Rattle.trie_theory.specs.Parts.{parts}
use Rattle.trie_theory.specs.Level.{level_of}
use Rattle.trie_theory.specs.Walk.{Step, walk}
use Rattle.trie_theory.specs.Computing.{of_a_level}

-- a text and the end byte
abbrev pub ended : String → List ℕ
ended s = text s ++ (0 ∷ [])

-- a value below 2^32
abbrev pub value : ℕ → ℕ → ℕ → ℕ → List ℕ
value a b c d = 0 ∷ 0 ∷ 0 ∷ 0 ∷ a ∷ b ∷ c ∷ d ∷ []

-- five printed bytes, filled out with zeros to 20
abbrev pub reference : ℕ → ℕ → ℕ → ℕ → ℕ → List ℕ
reference a b c d e = a ∷ b ∷ c ∷ d ∷ e ∷ replicate 15 0

-- strings of the two dimensions, V first
abbrev pub pair : List ℕ → List ℕ → Strings
pair v p = v ∷ p ∷ []

abbrev pub entry : List ℕ → List ℕ → List ℕ → Key
entry v p r = record { strings = pair v p; reference = r }

abbrev pub r1 : List ℕ
r1 = reference 0xA1 0xA6 0x06 0xB0 0xB3

abbrev pub r2 : List ℕ
r2 = reference 0xD4 0x47 0x39 0xD8 0xF8

abbrev pub r3 : List ℕ
r3 = reference 0x41 0xD1 0x7A 0x7B 0x4D

abbrev pub r4 : List ℕ
r4 = reference 0x96 0x98 0xD9 0xF5 0x06

abbrev pub r5 : List ℕ
r5 = reference 0xFF 0xCA 0xAE 0x8F 0x57

abbrev pub r6 : List ℕ
r6 = reference 0x68 0x8D 0x97 0x3C 0xBE

abbrev pub r7 : List ℕ
r7 = reference 0x99 0x07 0xEE 0x0A 0x7B

-- Table 1
abbrev pub k1 : Key
k1 = entry (value 0x5D 0xA8 0x94 0x2A) (ended "/Sources/Map.go") r1

abbrev pub k2 : Key
k2 = entry (value 0x5F 0xBD 0x8D 0xC4) (ended "/crypto/ecc.h") r2

abbrev pub k3 : Key
k3 = entry (value 0x5F 0xBD 0x8D 0xC4) (ended "/crypto/ecc.c") r2

abbrev pub k4 : Key
k4 = entry (value 0x5D 0xA8 0x94 0x8C) (ended "/Sources/Schema.go") r3

abbrev pub k5 : Key
k5 = entry (value 0x5E 0xF2 0x9C 0x59) (ended "/fs/ext3/inode.c") r4

abbrev pub k6 : Key
k6 = entry (value 0x5E 0xBD 0x23 0xC2) (ended "/fs/ext4/inode.h") r5

abbrev pub k7 : Key
k7 = entry (value 0x5F 0xBD 0x3D 0x5A) (ended "/fs/ext4/inode.c") r6

abbrev pub k8 : Key
k8 = entry (value 0x5D 0xA8 0x97 0x8B) (ended "/Sources/Schedule.go") r7

abbrev pub k9 : Key
k9 = entry (value 0x5D 0xA8 0x97 0x8B) (ended "/Sources/Scheduler.go") r7

abbrev pub nine : List Key
nine = k1 ∷ k2 ∷ k3 ∷ k4 ∷ k5 ∷ k6 ∷ k7 ∷ k8 ∷ k9 ∷ []

-- the same in row sequence: by value, then path
abbrev pub rows : List Key
rows = k1 ∷ k4 ∷ k8 ∷ k9 ∷ k6 ∷ k5 ∷ k7 ∷ k3 ∷ k2 ∷ []

-- path and value position
abbrev pub positions : List Key → List ℕ
positions ks = position 1 ks ∷ position 0 ks ∷ []

-- the nodes of key 9 in the level of the nine keys, τ 2
abbrev pub way : List Step
way = walk [] (level_of 2 2 rows) k9

-- a line of the table: what the definitions compute, and what is printed
pub record Line : Type 0 where
  pub computed : List ℕ
  pub printed : List ℕ

abbrev pub line : List ℕ → List ℕ → Line
line c p = record { computed = c; printed = p }

-- Table 3, with P1, P2 and P3 its first, third and last line, and P4: the sets of key 9 have 9, 4, 3 and 2 keys, and are
-- partitioned by V (1), path (2), V, then a leaf (0)
abbrev pub table : List Line
table =
    line (positions nine) (2 ∷ 5 ∷ [])
    ∷ line (positions (k1 ∷ k4 ∷ k8 ∷ k9 ∷ [])) (10 ∷ 7 ∷ [])
    ∷ line (positions (k4 ∷ k8 ∷ k9 ∷ [])) (14 ∷ 7 ∷ [])
    ∷ line (positions (k8 ∷ k9 ∷ [])) (18 ∷ 9 ∷ [])
    ∷ line (positions (k9 ∷ [])) (23 ∷ 9 ∷ [])
    ∷ line (map (λ (t : Step). t.amount) way) (9 ∷ 4 ∷ 3 ∷ 2 ∷ [])
    ∷ line (map (λ (t : Step). t.kind) way) (1 ∷ 2 ∷ 1 ∷ 0 ∷ [])
    ∷ []

-- EVERY LINE IS AS PRINTED
pub table_holds : map (λ (l : Line). l.computed) table ≡ map (λ (l : Line). l.printed) table
unfolding of_a_level
table_holds = refl

-- the positions of the nodes of key 9, value and path, are those of Table 3
pub way_positions : map (λ (t : Step). t.positions) way ≡ (5 ∷ 2 ∷ []) ∷ (7 ∷ 10 ∷ []) ∷ (7 ∷ 14 ∷ []) ∷ (9 ∷ 18 ∷ []) ∷ []
unfolding of_a_level
way_positions = refl

-- Table 5, as a trie. Below (00 00 00 00, /), partitioned by V, are
-- (5D A8, Sources/), by path into sources; (5E, fs/ext), a leaf; (5F BD, ε), by path into last_year
abbrev pub sche : Forest
sche =
    leaf (pair (0x94 ∷ 0x8C ∷ []) (ended "ma.go")) (entry [] [] r3 ∷ [])
    (leaf (pair (0x97 ∷ 0x8B ∷ []) (text "dule")) (entry [] (ended ".go") r7 ∷ entry [] (ended "r.go") r7 ∷ [])
    none)

abbrev pub sources : Forest
sources =
    leaf (pair (0x94 ∷ 0x2A ∷ []) (ended "Map.go")) (entry [] [] r1 ∷ [])
    (inner 0 (pair [] (text "Sche")) sche
    none)

abbrev pub last_year : Forest
last_year =
    leaf (pair (0x8D ∷ 0xC4 ∷ []) (text "crypto/ecc.")) (entry [] (ended "c") r2 ∷ entry [] (ended "h") r2 ∷ [])
    (leaf (pair (0x3D ∷ 0x5A ∷ []) (ended "fs/ext4/inode.c")) (entry [] [] r6 ∷ [])
    none)

abbrev pub years : Forest
years =
    inner 1 (pair (0x5D ∷ 0xA8 ∷ []) (text "Sources/")) sources
    (leaf (pair (0x5E ∷ []) (text "fs/ext"))
    (entry (0xBD ∷ 0x23 ∷ 0xC2 ∷ []) (ended "4/inode.h") r5 ∷ entry (0xF2 ∷ 0x9C ∷ 0x59 ∷ []) (ended "3/inode.c") r4 ∷ [])
    (inner 1 (pair (0x5F ∷ 0xBD ∷ []) []) last_year
    none))

pub table5 : level_of 2 2 rows ≡ inner 0 (pair (0 ∷ 0 ∷ 0 ∷ 0 ∷ []) (text "/")) years none
unfolding of_a_level
table5 = refl

-- a partition has parts for the first and the last of all bytes, ascending
pub all_bytes : parts 0 (entry (255 ∷ []) [] r1 ∷ entry (0 ∷ []) [] r2 ∷ entry (255 ∷ []) [] r3 ∷ [])
    ≡ (entry (0 ∷ []) [] r2 ∷ []) ∷ (entry (255 ∷ []) [] r1 ∷ entry (255 ∷ []) [] r3 ∷ []) ∷ []
unfolding of_a_level
all_bytes = refl

-- the level drawn in Level.antt
abbrev pub drawn_keys : List Key
drawn_keys =
    entry (value 0 0 0 7) (ended "/north/edge") r1 ∷ entry (value 0 0 0 7) (ended "/north/pond") r2
    ∷ entry (value 0 0 0 9) (ended "/south/edge") r3 ∷ entry (value 0 0 0 9) (ended "/south/lake") r4 ∷ []

abbrev pub single : String → List ℕ → Forest → Forest
single p r more = leaf (pair [] (ended p)) (entry [] [] r ∷ []) more

pub drawn :
    level_of 2 1 drawn_keys
    ≡ inner 0 (pair (0 ∷ 0 ∷ 0 ∷ 0 ∷ 0 ∷ 0 ∷ 0 ∷ []) (text "/"))
    (inner 1 (pair (7 ∷ []) (text "north/")) (single "edge" r1 (single "pond" r2 none))
    (inner 1 (pair (9 ∷ []) (text "south/")) (single "edge" r3 (single "lake" r4 none))
    none)) none
unfolding of_a_level
drawn = refl
