-- Document 01's listing and the example of each number, run on the book. Assumes nothing.
use Rattle.std.specs.Prelude.{ℕ, ◌≡◌, refl, List, [], ◌∷◌, ◌++◌, map, length, take, drop, replicate}
use Prim.Native.String.{String}
use Rattle.buffer.specs.Lists.{flat}
use Rattle.rows.specs.Sizes.{record_size}
use Rattle.rows.specs.Entry.{Entry, row}
use Rattle.buffer.specs.Text.{text}
use Rattle.trie_theory.specs.Search.{nodes_in}
use Rattle.entries.specs.Query.{asked}
use Rattle.book.specs.Digits.{level, small}
use Rattle.book.specs.Book.{Book, blank, fresh}
use Rattle.book.specs.Tries.{level_trie}
use Rattle.book.specs.Replies.{Reply, reply, Result}
use Rattle.book.specs.Calls.{Call, setup, add, search, read_level}
use Rattle.book.specs.Step.{step, answers, after}
use Rattle.book.specs.Image.{image}
use Rattle.book.specs.InWords.{nodes_of_tries}
use Rattle.book.specs.Computing.{of_a_book, of_an_image}

-- an entry with a reference of 19 zeros and one byte
abbrev entry : String → ℕ → ℕ → Entry
entry path value r = record { path = text path; value = value; reference = replicate 19 0 ++ (r ∷ []) }

abbrev replies : Book → List Call → List Reply
replies b cs = map (λ (r : Result). r.reply) (answers b cs)

-- the input of `fieldlog`, with an answer buffer of one row and one byte more
abbrev listing : List Call
listing =
    setup 65536 4 2 1 ∷ add 65536 (entry "/north/pond" 7 1) ∷ add 65536 (entry "/north/edge" 7 1) ∷ add 65536 (entry "/south/edge" 9 2)
    ∷ search 65536 (asked (text "/**/edge") 0 8) (replicate 230 170) ∷ []

-- its output: numbers and values, the node count 4 included
pub listing_replies : replies blank listing ≡ reply 0 0 0 ∷ reply 0 1 0 ∷ reply 0 2 0 ∷ reply 0 3 0 ∷ reply 0 1 4 ∷ []
unfolding of_a_book
listing_replies = refl

-- .. and one row; the byte after it stays
pub listing_row : map (λ (r : Result). r.answer) (answers blank listing) ≡ [] ∷ [] ∷ [] ∷ [] ∷ (row (entry "/north/edge" 7 1) ++ (170 ∷ [])) ∷ []
unfolding of_a_book
listing_row = refl

-- its search enters four of the five nodes: the leaf of value 9 is passed over
pub listing_nodes : length (nodes_of_tries (after blank (take 4 listing))) ≡ 5
unfolding of_a_book nodes_of_tries nodes_in after
listing_nodes = refl

-- the book 4, 2, 1 with one entry
abbrev one : Book
one = record { M = 4; L = 2; τ = 1; entries = entry "/north/pond" 7 1 ∷ [] }

-- the examples of the table of numbers, in its sequence, then 100; beside 4, 6, 8 and 11 what is just a reason, or just not one
abbrev examples : List Call
examples =
    add 65536 (entry "/north//pond" 7 1)
    ∷ add 65536 (record { path = 47 ∷ replicate 200 97; value = 7; reference = replicate 20 0 })
    ∷ add 65536 (record { path = text "/north/pond"; value = 7; reference = replicate 19 0 })
    ∷ add 15 (entry "/north/pond" 7 1) ∷ add 20479 (entry "/north/pond" 7 1)
    ∷ setup 65536 0 2 1
    ∷ setup 20479 4 2 1 ∷ setup 20480 4 2 1
    ∷ search 65536 (asked (text "/a**b") 0 8) []
    ∷ search 65536 (asked (flat (replicate 33 (text "/a"))) 0 8) [] ∷ search 65536 (asked (flat (replicate 32 (text "/a"))) 0 8) []
    ∷ search 65536 (asked (text "/**/edge") 9 8) []
    ∷ search 65536 (asked (text "/**") 0 8) (replicate 228 0) ∷ search 65536 (asked (text "/**") 0 8) (replicate 229 0)
    ∷ add 65536 (entry "/north/pond" 7 1) ∷ []

pub example_replies :
    map (λ (c : Call). (step one c).result.reply) examples
    ≡ reply 1 0 0 ∷ reply 2 0 0 ∷ reply 3 0 0 ∷ reply 4 0 0 ∷ reply 4 0 0 ∷ reply 5 0 0 ∷ reply 6 0 0 ∷ reply 0 0 0 ∷ reply 7 0 0 ∷ reply 8 0 0 ∷ reply 0 0 1
    ∷ reply 10 0 0 ∷ reply 11 1 0 ∷ reply 0 1 1 ∷ reply 100 1 0 ∷ []
unfolding of_a_book
example_replies = refl

-- 4 before the first setup; a setup of numbers that 32 bits cut off would let pass is 5; 9: the second entry with 1, 1, 1, a repeat too;
-- a refused setup changes nothing, an accepted one strikes out all entries
pub example_full :
    replies blank
    (read_level 6144 0 [] ∷ setup 6144 4294967297 1 1 ∷ setup 6144 1 1 1 ∷ add 6144 (entry "/north/pond" 7 1)
    ∷ add 6144 (entry "/north/edge" 7 1) ∷ add 6144 (entry "/north/pond" 7 1) ∷ setup 6144 2 1 1 ∷ add 6144 (entry "/north/edge" 7 1)
    ∷ setup 6144 1 1 1 ∷ add 6144 (entry "/north/edge" 7 1) ∷ [])
    ≡ reply 4 0 0 ∷ reply 5 0 0 ∷ reply 0 0 0 ∷ reply 0 1 0 ∷ reply 9 0 0 ∷ reply 9 0 0 ∷ reply 6 0 0 ∷ reply 9 0 0 ∷ reply 0 0 0 ∷ reply 0 1 0
    ∷ []
unfolding of_a_book
example_full = refl

-- the limits of a setup, on no memory: the greatest and the least numbers are 6, memory too short; one beyond a limit is 5
pub example_limits :
    replies blank
    (setup 0 4096 8 100 ∷ setup 0 4097 8 100 ∷ setup 0 4096 9 100 ∷ setup 0 4096 8 101 ∷ setup 0 1 1 1 ∷ setup 0 0 1 1 ∷ setup 0 1 0 1
    ∷ setup 0 1 1 0 ∷ [])
    ≡ reply 6 0 0 ∷ reply 5 0 0 ∷ reply 5 0 0 ∷ reply 5 0 0 ∷ reply 6 0 0 ∷ reply 5 0 0 ∷ reply 5 0 0 ∷ reply 5 0 0 ∷ []
unfolding of_a_book
example_limits = refl

-- seven entries, told apart by their values, in the sequence of their additions
abbrev seven : List Entry
seven = map (λ (v : ℕ). entry "/north/pond" v 1) (1 ∷ 2 ∷ 3 ∷ 4 ∷ 5 ∷ 6 ∷ 7 ∷ [])

-- the rule of digits with M 2 and 7 held: 7 ÷ 2 is 3, two digits 1; level 0 has entries 5 and 6, level 1 the oldest four, and one is left over
pub example_digits :
    map (map (λ (e : Entry). e.value)) (small 2 seven ∷ level 2 0 seven ∷ level 2 1 seven ∷ level 2 2 seven ∷ [])
    ≡ (7 ∷ []) ∷ (5 ∷ 6 ∷ []) ∷ (1 ∷ 2 ∷ 3 ∷ 4 ∷ []) ∷ [] ∷ []
unfolding of_a_book
example_digits = refl

-- M 2, L 1: the second entry empties the small trie into level 0, and a level numbered L has no rows
abbrev filling : List Call
filling =
    setup 8192 2 1 1 ∷ add 8192 (entry "/north/pond" 7 1) ∷ read_level 8192 0 [] ∷ add 8192 (entry "/north/edge" 7 1)
    ∷ read_level 8192 0 (replicate 1721 9) ∷ read_level 8192 0 (replicate 1719 9) ∷ read_level 8192 1 [] ∷ []

pub example_level :
    replies blank filling ≡ reply 0 0 0 ∷ reply 0 1 0 ∷ reply 0 0 0 ∷ reply 0 2 0 ∷ reply 0 2 0 ∷ reply 11 2 0 ∷ reply 0 0 0 ∷ []
unfolding of_a_book
example_level = refl

-- its records, in row sequence: after the row two nodes, the root by path (2) at path 8 and value 9, and a leaf at 13 and 9, one past both ends
abbrev record_of : String → List ℕ
record_of path = row (entry path 7 1) ++ (2 ∷ 2 ∷ 8 ∷ 9 ∷ 0 ∷ 13 ∷ 9 ∷ replicate 624 0)

pub example_records :
    map (λ (r : Result). r.answer) (drop 4 (answers blank filling))
    ≡ (record_of "/north/edge" ++ (record_of "/north/pond" ++ (9 ∷ []))) ∷ replicate 1719 9 ∷ [] ∷ []
unfolding of_a_book
example_records = refl

pub example_size : length (record_of "/north/edge") ≡ record_size
unfolding of_a_book
example_size = refl

-- the bytes of a store of one entry: docs/STORE-FORMAT.md's first small trie, at 4,096
pub example_image :
    take 16 (image one) ++ take 70 (drop 4096 (image one))
    ≡ 0 ∷ 0 ∷ 0 ∷ 4 ∷ 0 ∷ 0 ∷ 0 ∷ 2 ∷ 0 ∷ 0 ∷ 0 ∷ 1 ∷ 0 ∷ 0 ∷ 0 ∷ 1 ∷ 0 ∷ 8 ∷ 12 ∷ 0 ∷ 0 ∷ 0 ∷ 22 ∷ 0 ∷ 0 ∷ 0 ∷ 0 ∷ 0 ∷ 0 ∷ 0 ∷ 7
    ∷ (text "/north/pond" ++ (replicate 22 0 ++ (1 ∷ replicate 21 0)))
unfolding of_an_image
example_image = refl

pub example_fresh : length (image (fresh 1 1 1)) ≡ 6144
unfolding of_an_image
example_fresh = refl

-- A root is entered even where its own strings rule it out, and then none of its children is: the small trie of two entries has the root
-- (7, /north/), which neither the path /lake nor the value 8 goes on from
abbrev ruled_out : List Call
ruled_out =
    setup 65536 4 2 1 ∷ add 65536 (entry "/north/pond" 7 1) ∷ add 65536 (entry "/north/edge" 7 1) ∷ search 65536 (asked (text "/lake") 0 8) []
    ∷ search 65536 (asked (text "/**") 8 9) [] ∷ []

pub example_ruled_out : drop 3 (replies blank ruled_out) ≡ reply 0 0 1 ∷ reply 0 0 1 ∷ []
unfolding of_a_book
example_ruled_out = refl

-- Over all tries, M 2 and L 2: level 0 has two entries, the small trie one. All is found in 4 nodes, the two roots and the two leaves of the
-- level; for the value 5, which the small trie has, only its root and that of the level are entered. An entry of a level is there already,
-- and a repeat puts nothing
abbrev two_tries : List Call
two_tries =
    setup 12288 2 2 1 ∷ add 12288 (entry "/north/pond" 7 1) ∷ add 12288 (entry "/north/edge" 7 1) ∷ add 12288 (entry "/south/edge" 5 2)
    ∷ search 12288 (asked (text "/**") 0 9) (replicate 687 0) ∷ search 12288 (asked (text "/**") 5 5) (replicate 229 0)
    ∷ add 12288 (entry "/north/pond" 7 1) ∷ add 12288 (entry "/south/edge" 5 2) ∷ add 12288 (entry "/south/pond" 5 2) ∷ []

pub example_two_tries :
    drop 3 (replies blank two_tries)
    ≡ reply 0 3 0 ∷ reply 0 3 4 ∷ reply 0 1 2 ∷ reply 100 3 0 ∷ reply 100 3 0 ∷ reply 0 4 0 ∷ []
unfolding of_a_book
example_two_tries = refl

-- row sequence is by value, then path, then reference: four entries that were added in the reverse of it
abbrev reversed : Book
reversed =
    record {
      M = 8;
      L = 1;
      τ = 1;
      entries = entry "/a" 9 1 ∷ entry "/b/c" 7 1 ∷ entry "/b" 7 2 ∷ entry "/b" 7 1 ∷ [];
    }

pub example_sequence :
    (step reversed (search 20480 (asked (text "/**") 0 9) (replicate 916 0))).result.answer
    ≡ flat (map row (entry "/b" 7 1 ∷ entry "/b" 7 2 ∷ entry "/b/c" 7 1 ∷ entry "/a" 9 1 ∷ []))
unfolding of_a_book
example_sequence = refl

-- each entry counts as a key, also where only references differ: two are more than τ 1, differ in neither dimension, and are one leaf
abbrev references : List Call
references =
    setup 8192 2 1 1 ∷ add 8192 (entry "/north/pond" 7 2) ∷ add 8192 (entry "/north/pond" 7 1) ∷ read_level 8192 0 (replicate 1720 9) ∷ []

abbrev leaf_record : ℕ → List ℕ
leaf_record r = row (entry "/north/pond" 7 r) ++ (1 ∷ 0 ∷ 13 ∷ 9 ∷ replicate 627 0)

pub example_references :
    map (λ (r : Result). r.answer) (drop 3 (answers blank references)) ≡ (leaf_record 1 ++ leaf_record 2) ∷ []
unfolding of_a_book
example_references = refl

-- in a level age plays no part
pub example_age : level_trie 2 (entry "/north/pond" 7 1 ∷ entry "/north/edge" 7 1 ∷ []) ≡ level_trie 2 (entry "/north/edge" 7 1 ∷ entry "/north/pond" 7 1 ∷ [])
unfolding of_a_book
example_age = refl
