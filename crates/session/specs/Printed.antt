-- What `fieldlog` prints (document 01, `fieldlog`). Assumes nothing: these are definitions.
use Rattle.std.specs.Prelude.{ℕ, zero, suc, List, [], ◌∷◌, ◌++◌, map, length}
use Rattle.buffer.specs.Lists.{flat}
use Rattle.rows.specs.Entry.{Entry, entry}
use Rattle.entries.specs.Query.{Query, asked}
use Rattle.book.specs.Book.{Book, blank, front}
use Rattle.book.specs.Replies.{Reply, search_number}
use Rattle.book.specs.Searching.{matching, nodes}
use Rattle.book.specs.Calls as Call
use Rattle.book.specs.Step.{step}
use Rattle.logline.specs.Meaning.{Meaning, setup, addition, searching, misread, meaning}
use Rattle.logline.specs.Spelling as Spelled
use Rattle.logline.specs.Input.{lines_of}
use Rattle.session.specs.Sizes.{store_size}

-- the calls that a line asks for, on the whole store
abbrev pub setup_call : ℕ → ℕ → ℕ → Call.Call
setup_call m l t = Call.setup store_size m l t

abbrev pub add_call : Entry → Call.Call
add_call e = Call.add store_size e

abbrev pub search_call : Query → List ℕ → Call.Call
search_call q answer = Call.search store_size q answer

-- `=,number,first,second`
unfoldable pub reply_line : Reply → List ℕ
reply_line r = Spelled.reply r.number r.first r.second

-- A search, from its number, the entries found and the nodes entered: one line `-,value,reference,path` for each row, then rows and nodes; refused,
-- zeros. The answer buffer has no part in it, since it is always enough (Enough.antt)
unfoldable pub searched : ℕ → List Entry → ℕ → List ℕ
searched zero found nodes = flat (map Spelled.entry_line found) ++ Spelled.reply 0 (length found) nodes
searched (suc n) found nodes = Spelled.reply (suc n) 0 0

-- what is printed for a line, and the book after it; 12 changes nothing
unfoldable pub printed : Book → Meaning → List ℕ
printed b (setup m l t) = reply_line (step b (setup_call m l t)).result.reply
printed b (addition value reference path) = reply_line (step b (add_call (entry path value reference))).result.reply
printed b (searching low high pattern) =
    let q = asked pattern low high in searched (search_number store_size (front b) q) (matching q b.entries) (nodes q b)
printed b misread = Spelled.reply 12 0 0

unfoldable pub next : Book → Meaning → Book
next b (setup m l t) = (step b (setup_call m l t)).book
next b (addition value reference path) = (step b (add_call (entry path value reference))).book
next b (searching low high pattern) = b
next b misread = b

-- .. for lines one after another
unfoldable pub printed_all : Book → List Meaning → List ℕ
printed_all b [] = []
printed_all b (m ∷ ms) = printed b m ++ printed_all (next b m) ms

unfoldable pub next_all : Book → List Meaning → Book
next_all b [] = b
next_all b (m ∷ ms) = next_all (next b m) ms

-- THE OUTPUT for an input: what its lines print, one after another, from a store that is all zero on
unfoldable pub output : List ℕ → List ℕ
output input = printed_all blank (map meaning (lines_of input))
