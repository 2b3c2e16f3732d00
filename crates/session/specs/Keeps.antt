-- What the memory of `fieldlog` holds: zeros at first, and then the book of the lines read; and the line that is begun. Assumes nothing: these are
-- definitions.
use Rattle.std.specs.Prelude.{◌≡◌, ℕ, ◌≤◌, List, [], ◌∷◌, map, length, take, replicate}
use Rattle.rows.specs.Entry.{entry}
use Rattle.book.specs.Book.{Book, blank}
use Rattle.book.specs.Replies.{Reply}
use Rattle.book.specs.Promises.{SetsUp, Adds}
use Rattle.book.specs.Image.{HoldsBook}
use Rattle.logline.specs.Meaning.{Meaning, setup, addition, searching, misread, meaning_of}
use Rattle.logline.specs.Input.{Holds, begun_after, on_byte, on_end}
use Rattle.logline.specs.Spelling.{Wrote}
use Rattle.session.specs.Sizes.{store_size}
use Rattle.session.specs.Printed.{printed, next, printed_all, next_all}

pub data Keeps (store : List ℕ) (b : Book) : Type 0 where
  ours : HoldsBook store b → Keeps store b
  unused : b ≡ blank → store ≡ replicate store_size 0 → Keeps store b

-- what a line does to the store is what its call promises; a search and a misread line leave it as it is
pub data Changes (store after : List ℕ) : Meaning → Type 0 where
  by_setup : {m l t : ℕ} {r : Reply} → SetsUp m l t store after r → Changes store after (setup m l t)
  by_addition :
      {value : ℕ} {reference path : List ℕ} {r : Reply} → Adds (entry path value reference) store after r →
      Changes store after (addition value reference path)
  by_search : {low high : ℕ} {pattern : List ℕ} → after ≡ store → Changes store after (searching low high pattern)
  by_misread : after ≡ store → Changes store after misread

-- .. of a line, or of none
pub data ChangesAll (store after : List ℕ) : List Meaning → Type 0 where
  no_line : after ≡ store → ChangesAll store after []
  one_line : {m : Meaning} → Changes store after m → ChangesAll store after (m ∷ [])

-- A line that means m was carried out: what it prints stands at the beginning of `out`, n bytes, and the store keeps the book after it
pub record Ran (m : Meaning) (store after out filled : List ℕ) (n : ℕ) : Type 0 where
  pub short : n ≤ length out
  pub prints : (b : Book) → Keeps store b → Wrote out 0 (printed b m) filled n
  pub keeps : (b : Book) → Keeps store b → Keeps after (next b m)
  pub changes : Changes store after m

-- .. a line, or none: ms is what it means
pub record RanAll (ms : List Meaning) (store after out filled : List ℕ) (n : ℕ) : Type 0 where
  pub short : n ≤ length out
  pub prints : (b : Book) → Keeps store b → take n filled ≡ printed_all b ms
  pub keeps : (b : Book) → Keeps store b → Keeps after (next_all b ms)
  pub changes : ChangesAll store after ms

-- ---- between two bytes of the input

-- how many bytes the line has that is begun, the buffer that begins with them, and the store
pub record State : Type 0 where
  pub len : ℕ
  pub line : List ℕ
  pub store : List ℕ

abbrev pub state : ℕ → List ℕ → List ℕ → State
state len line store = record { len = len; line = line; store = store }

-- the line that is begun, and the book of the lines before it
pub record Stands (s : State) (begun : List ℕ) (b : Book) : Type 0 where
  pub holds : Holds s.len s.line begun
  pub keeps : Keeps s.store b

-- the lines that a byte ends, one or none; and the end of the input
abbrev pub ended_by : List ℕ → ℕ → List Meaning
ended_by begun x = map meaning_of (on_byte begun x)

abbrev pub ended_last : List ℕ → List Meaning
ended_last begun = map meaning_of (on_end begun)

-- the byte x was fed, and `text` is what is printed then
pub record FedByte (x : ℕ) (s after : State) (text : List ℕ) : Type 0 where
  pub prints : (begun : List ℕ) (b : Book) → Stands s begun b → text ≡ printed_all b (ended_by begun x)
  pub stands : (begun : List ℕ) (b : Book) → Stands s begun b → Stands after (begun_after begun x) (next_all b (ended_by begun x))
  pub changes : (begun : List ℕ) → Holds s.len s.line begun → ChangesAll s.store after.store (ended_by begun x)

pub record FedEnd (s : State) (text : List ℕ) : Type 0 where
  pub prints : (begun : List ℕ) (b : Book) → Stands s begun b → text ≡ printed_all b (ended_last begun)
