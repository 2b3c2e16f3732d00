-- "The answer buffer has 16,384, which is always enough" (document 01, `fieldlog`; proved in proofs/Enough.antt).
use Rattle.std.specs.Prelude.{◌≡◌, ℕ, List, length}
use Rattle.entries.specs.Query.{Query}
use Rattle.book.specs.Book.{Book}
use Rattle.book.specs.Step.{step}
use Rattle.session.specs.Sizes.{answer_size}
use Rattle.session.specs.Printed.{search_call}

-- Whatever lines came before, so whatever book the store keeps, no search gets the number 11: a store of 65,536 bytes holds at most 59 entries
abbrev pub AlwaysEnough : Type 0
AlwaysEnough =
    (b : Book) (q : Query) (answer : List ℕ) → length answer ≡ answer_size → (step b (search_call q answer)).result.reply.number ≡ 11 → ⊥
