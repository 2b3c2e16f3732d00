-- DEMAND 3, one statement about lists of calls of any length (proved in proofs/Demand3.antt). Whatever the memory held, and whatever
-- beginning of it each call is lent, after an accepted setup the results are the book's: number, both values, every byte of the answer
-- buffer. And the memory holds the book's image, which is demand 2; so it does after every call, since the list may end there.
use Rattle.std.specs.Prelude.{ℕ, ◌≡◌, Bool, true, ◌&&◌, List, ◌∷◌, ◌++◌, length, leb}
use Rattle.buffer.specs.Lists.{all}
use Rattle.book.specs.Book.{Book, blank}
use Rattle.book.specs.Replies.{Result, setup_number}
use Rattle.book.specs.Calls.{Call, setup, lent, typed}
use Rattle.book.specs.Step.{answers, after}
use Rattle.book.specs.Image.{HoldsBook}
use Rattle.book.specs.Ran.{Ran, Begun}

-- from the book b on
pub record AsTheBook (b : Book) (calls : List Call) (results : List Result) (memory : List ℕ) : Type 0 where
  pub results_equal : results ≡ answers b calls
  pub holds : HoldsBook memory (after b calls)

abbrev pub Demand3 : Type 0
Demand3 =
    (memory end : List ℕ) (calls : List Call) (results : List Result) →
    Ran memory calls results end → Begun calls results → AsTheBook blank calls results end

-- a list cut in two: what came back from the first calls, and the memory after them
pub record Cut (memory : List ℕ) (xs ys : List Call) (results : List Result) (end : List ℕ) : Type 0 where
  pub firsts : List Result
  pub between : List ℕ
  pub others : List Result
  pub parts : results ≡ firsts ++ others
  pub ran_first : Ran memory xs firsts between
  pub ran_others : Ran between ys others end

-- a list can be cut at every place: demand 3 holds of each beginning of it
abbrev pub EveryCut : Type 0
EveryCut =
    (memory end : List ℕ) (xs ys : List Call) (results : List Result) →
    Ran memory (xs ++ ys) results end → Cut memory xs ys results end

-- a call that can be made on a memory of this length
abbrev pub makeable : ℕ → Call → Bool
makeable long c = typed c && leb (lent c) long

-- And there are such lists: the promises can be kept together. Every list of calls that begins with a setup to be accepted can be run
pub record CanRun (memory : List ℕ) (calls : List Call) : Type 0 where
  pub results : List Result
  pub end : List ℕ
  pub ran : Ran memory calls results end
  pub begins : Begun calls results

abbrev pub EachCanRun : Type 0
EachCanRun =
    (memory : List ℕ) (n m l t : ℕ) (calls : List Call) → setup_number n m l t ≡ 0 → all (makeable (length memory)) (setup n m l t ∷ calls) ≡ true →
    CanRun memory (setup n m l t ∷ calls)
