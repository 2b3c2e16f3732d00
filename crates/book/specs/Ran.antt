-- Lists of calls on one lent memory. Assumes nothing: these are definitions.
use Rattle.std.specs.Prelude.{ℕ, ◌≤◌, ◌≡◌, true, List, [], ◌∷◌, length, take, drop}
use Rattle.book.specs.Replies.{Result}
use Rattle.book.specs.Calls.{Call, setup, lent, typed}
use Rattle.book.specs.Promises.{Promise}

-- one call: it is lent a beginning of the memory, keeps its promise on it, and what is not lent stays as it was
pub record Did (memory : List ℕ) (c : Call) (r : Result) (after : List ℕ) : Type 0 where
  pub typed : typed c ≡ true
  pub inside : lent c ≤ length memory
  pub beyond : drop (lent c) after ≡ drop (lent c) memory
  pub promise : Promise c (take (lent c) memory) (take (lent c) after) r

-- a list of calls: each gets the memory as the last one left it, and nothing else writes it
pub data Ran : List ℕ → List Call → List Result → List ℕ → Type 0 where
  done : {memory : List ℕ} → Ran memory [] [] memory
  next :
      {memory between after : List ℕ} {c : Call} {cs : List Call} {r : Result} {rs : List Result} → Did memory c r between →
      Ran between cs rs after → Ran memory (c ∷ cs) (r ∷ rs) after

-- the list begins with an accepted setup
pub data Begun : List Call → List Result → Type 0 where
  begun : {n m l t : ℕ} {cs : List Call} {r : Result} {rs : List Result} → r.reply.number ≡ 0 → Begun (setup n m l t ∷ cs) (r ∷ rs)
