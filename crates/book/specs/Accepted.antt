-- What has been accepted, told from the calls and the numbers that came back alone. Assumes nothing: these are definitions.
use Rattle.std.specs.Prelude.{ℕ, zero, suc, List, [], ◌∷◌}
use Rattle.book.specs.Book.{Book, blank, fresh, put}
use Rattle.book.specs.Replies.{Result}
use Rattle.book.specs.Calls.{Call, setup, add, search, read_level}

-- an accepted setup notes M, L and τ and strikes out all entries; an accepted addition (neither refused nor 100) puts its entry last
abbrev pub noted : Book → Call → ℕ → Book
noted b (setup n m l t) zero = fresh m l t
noted b (setup n m l t) (suc k) = b
noted b (add n e) zero = put e b
noted b (add n e) (suc k) = b
noted b (search n q answer) k = b
noted b (read_level n i answer) k = b

unfoldable pub noted_from : Book → List Call → List Result → Book
noted_from b [] rs = b
noted_from b (c ∷ cs) [] = b
noted_from b (c ∷ cs) (r ∷ rs) = noted_from (noted b c r.reply.number) cs rs

-- M, L and τ of the latest accepted setup, and the entries accepted since, oldest first
abbrev pub accepted : List Call → List Result → Book
accepted = noted_from blank
