-- Whole logs, worked from the definition of `output`: document 01's example byte for byte, and the edges of its `fieldlog`. Assumes nothing.
use Rattle.std.specs.Prelude.{ℕ, ◌≡◌, refl, List, [], ◌∷◌, ◌++◌, map, replicate}
use Prim.Native.String.{String}
use Rattle.buffer.specs.Lists.{flat}
use Rattle.trie_theory.specs.Worked.{text}
use Rattle.linefields.specs.Fields.{width, only, number_from, plain, number_of, hex_digit, hex_value, is_reference, unhex}
use Rattle.linespell.specs.Spelling.{decimal_in, decimal, glyph, hex, reply, entry_line}
use Rattle.linecut.specs.Input.{lines_from}
use Rattle.logline.specs.Meaning.{with_field}
use Rattle.book.specs.Computing.{of_a_book}
use Rattle.session.specs.Printed.{reply_line, searched, printed, next, printed_all, output}

-- lines, each ended by 0A
abbrev lines : List String → List ℕ
lines [] = []
lines (l ∷ ls) = text l ++ (10 ∷ lines ls)

-- an input, and what is printed for it
pub record Log : Type 0 where
  pub input : List ℕ
  pub prints : List ℕ

abbrev log : List ℕ → List String → Log
log input prints = record { input = input; prints = lines prints }

-- document 01's example
abbrev example : Log
example =
    log
    (lines
    ("4,2,1"
    ∷ "+,7,0000000000000000000000000000000000000001,/north/pond"
    ∷ "+,7,0000000000000000000000000000000000000001,/north/edge"
    ∷ "+,9,0000000000000000000000000000000000000002,/south/edge"
    ∷ "?,0,8,/**/edge"
    ∷ []))
    ("=,0,0,0"
    ∷ "=,0,1,0"
    ∷ "=,0,2,0"
    ∷ "=,0,3,0"
    ∷ "-,7,0000000000000000000000000000000000000001,/north/edge"
    ∷ "=,0,1,4"
    ∷ [])

-- an input that is a setup, `=,0,0,0`, and then these lines
abbrev after_setup : String → List ℕ → List String → Log
after_setup first input prints = log (lines (first ∷ []) ++ input) ("=,0,0,0" ∷ prints)

-- how input is cut into lines: no input, an empty line, two lines, a last line without its end, a line of 512 bytes and one of 513
abbrev cut : List Log
cut =
    log [] [] ∷ log (10 ∷ []) ("=,12,0,0" ∷ []) ∷ log (97 ∷ 10 ∷ 10 ∷ []) ("=,12,0,0" ∷ "=,12,0,0" ∷ [])
    ∷ log (text "4,2,1") ("=,0,0,0" ∷ []) ∷ after_setup "4,2,1" (text "?,0,8,/a") ("=,0,0,0" ∷ [])
    ∷ after_setup "4,2,1" (text "?,0,8,/" ++ (replicate 505 97 ++ (10 ∷ []))) ("=,8,0,0" ∷ [])
    ∷ after_setup "4,2,1" (text "?,0,8,/" ++ (replicate 506 97 ++ (10 ∷ lines ("?,0,8,/a" ∷ [])))) ("=,12,0,0" ∷ "=,0,0,0" ∷ []) ∷ []

-- before the first setup the store is all zero: 4
abbrev unused : Log
unused = log (lines ("+,7,0000000000000000000000000000000000000001,/a" ∷ "?,0,8,/a" ∷ "?,0,8," ∷ [])) ("=,4,0,0" ∷ "=,4,0,0" ∷ "=,4,0,0" ∷ [])

-- a setup is three numbers, decimal, below 2^64, without leading zeros; outside its limits it is 5, for more than 65,536 bytes 6
abbrev setups : Log
setups =
    log
    (lines
    ("4,2" ∷ "4,2,1," ∷ "4,2,1,1" ∷ "00,2,1" ∷ "4,02,1" ∷ "+4,2,1" ∷ " 4,2,1" ∷ "4,,1" ∷ "18446744073709551616,2,1" ∷ "18446744073709551615,2,1" ∷ "0,2,1" ∷ "4294967300,2,1"
    ∷ "61,1,1" ∷ "30,1,1" ∷ []))
    ("=,12,0,0" ∷ "=,12,0,0" ∷ "=,12,0,0" ∷ "=,12,0,0" ∷ "=,12,0,0" ∷ "=,12,0,0" ∷ "=,12,0,0" ∷ "=,12,0,0" ∷ "=,12,0,0" ∷ "=,5,0,0" ∷ "=,5,0,0" ∷ "=,5,0,0"
    ∷ "=,6,0,0" ∷ "=,0,0,0" ∷ [])

-- the path or pattern is all that remains, commas included: there and empty it is 1 or 7, without its comma 12. A reference of 39 digits, or with a
-- capital one, is 12, never 3
abbrev fields : Log
fields =
    after_setup "4,2,1"
    (lines
    ("+,7,0000000000000000000000000000000000000001," ∷ "+,7,0000000000000000000000000000000000000001" ∷ "?,0,8," ∷ "?,0,8"
    ∷ "+,7,000000000000000000000000000000000000001,/a" ∷ "+,7,000000000000000000000000000000000000000A,/a" ∷ "+,07,0000000000000000000000000000000000000001,/a" ∷ "++,7,0000000000000000000000000000000000000001,/a"
    ∷ "+,18446744073709551615,000000000000000000000000000000000000000a,/a,b" ∷ "?,9,8,/a,b" ∷ "?,9,18446744073709551615,/a,b" ∷ []))
    ("=,1,0,0" ∷ "=,12,0,0" ∷ "=,7,0,0" ∷ "=,12,0,0" ∷ "=,12,0,0" ∷ "=,12,0,0" ∷ "=,12,0,0" ∷ "=,12,0,0" ∷ "=,0,1,0" ∷ "=,10,0,0"
    ∷ "-,18446744073709551615,000000000000000000000000000000000000000a,/a,b" ∷ "=,0,1,1" ∷ [])

-- a carriage return is a byte of its line: 12 in a number, 1 or 7 at the end of a path or pattern
abbrev returned : Log
returned =
    after_setup "4,2,1"
    (text "4,2,1" ++ (13 ∷ 10 ∷ (text "+,7,0000000000000000000000000000000000000001,/a" ++ (13 ∷ 10 ∷ (text "?,0,8,/a" ++ (13 ∷ 10 ∷ []))))))
    ("=,12,0,0" ∷ "=,1,0,0" ∷ "=,7,0,0" ∷ [])

-- 100 gives the held number; 9; a new setup strikes out all entries
abbrev filled : Log
filled =
    after_setup "1,1,1"
    (lines
    ("+,7,0000000000000000000000000000000000000001,/a" ∷ "+,8,0000000000000000000000000000000000000001,/a" ∷ "2,1,1" ∷ "+,8,0000000000000000000000000000000000000001,/a" ∷ "+,8,0000000000000000000000000000000000000001,/a" ∷ "?,0,9,/**" ∷ []))
    ("=,0,1,0" ∷ "=,9,0,0" ∷ "=,0,0,0" ∷ "=,0,1,0" ∷ "=,100,1,0" ∷ "-,8,0000000000000000000000000000000000000001,/a" ∷ "=,0,1,1" ∷ [])

-- the table
abbrev pub logs : List Log
logs = example ∷ unused ∷ setups ∷ fields ∷ returned ∷ filled ∷ cut

pub worked : map (λ (l : Log). output l.input) logs ≡ map (λ (l : Log). l.prints) logs
unfolding flat width only number_from plain number_of hex_digit hex_value is_reference unhex decimal_in decimal glyph hex reply entry_line lines_from with_field of_a_book reply_line searched printed next printed_all output
worked = refl
