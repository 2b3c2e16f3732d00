-- The book's answer to a call, and the book afterwards. Assumes nothing: these are definitions.
use Rattle.std.specs.Prelude.{ℕ, zero, suc, ◌+◌, ◌*◌, Bool, true, false, List, [], ◌∷◌, map, length, ltb}
use Rattle.buffer.specs.Lists.{flat}
use Rattle.buffer.specs.Splice.{splice}
use Rattle.rows.specs.Sizes.{row_size, record_size}
use Rattle.rows.specs.Entry.{Entry, row}
use Rattle.book.specs.Book.{Book, held, front, fresh, put, has}
use Rattle.book.specs.Searching.{matching, nodes}
use Rattle.book.specs.Records.{records}
use Rattle.book.specs.Replies.{reply, Result, result, setup_number, add_number, search_number, read_number}
use Rattle.book.specs.Calls.{Call, setup, add, search, read_level}

-- what comes back from a call, and the book after it
pub record Outcome : Type 0 where
  pub result : Result
  pub book : Book

abbrev pub outcome : Result → Book → Outcome
outcome r b = record { result = r; book = b }

-- the number 0 lets the call be accepted, with the outcome o; any other refuses it with two zeros, and changes nothing
abbrev pub unless : ℕ → List ℕ → Book → Outcome → Outcome
unless zero answer b o = o
unless (suc n) answer b o = outcome (result (reply (suc n) 0 0) answer) b

-- an addition that no reason refuses: of an entry that the book has, 100 and nothing more; any other is put last
abbrev pub admit : Bool → Entry → Book → Outcome
admit true e b = outcome (result (reply 100 (held b) 0) []) b
admit false e b = outcome (result (reply 0 (held b + 1) 0) []) (put e b)

-- rows that are too long for the answer buffer: 11 gives their count; else they go into it, and what comes after the last one stays
unfoldable pub fill : Bool → List (List ℕ) → ℕ → List ℕ → Result
fill true rows second answer = result (reply 11 (length rows) 0) answer
fill false rows second answer = result (reply 0 (length rows) second) (splice answer 0 (flat rows))

-- rows of one width
unfoldable pub list : ℕ → List (List ℕ) → ℕ → List ℕ → Result
list width rows second answer = fill (ltb (length answer) (length rows * width)) rows second answer

unfoldable pub step : Book → Call → Outcome
step b (setup n m l t) = unless (setup_number n m l t) [] b (outcome (result (reply 0 0 0) []) (fresh m l t))
step b (add n e) = unless (add_number n (front b) e) [] b (admit (has b.entries e) e b)
step b (search n q answer) =
    unless (search_number n (front b) q) answer b (outcome (list row_size (map row (matching q b.entries)) (nodes q b) answer) b)
step b (read_level n i answer) = unless (read_number n (front b)) answer b (outcome (list record_size (records i b) 0 answer) b)

-- the results that the book gives for a list of calls
unfoldable pub answers : Book → List Call → List Result
answers b [] = []
answers b (c ∷ cs) = (step b c).result ∷ answers (step b c).book cs

-- the book after a list of calls
unfoldable pub after : Book → List Call → Book
after b [] = b
after b (c ∷ cs) = after (step b c).book cs
