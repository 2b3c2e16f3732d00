-- What a search or a reading back lists in its answer: rows of one width. `Rows` says of rows, in their sequence, and of a second value that they are
-- those of the tries behind the listing; where the bytes are not those of good tries it holds of none. Assumes nothing: these are definitions.
use Rattle.std.specs.Prelude.{ℕ, ◌≤◌, ◌<◌, ◌≡◌, ◌⊎◌, true, List, length, take, eqb, Option, Some, None}
use Rattle.buffer.specs.Lists.{all, flat}
use Rattle.buffer.specs.Splice.{splice}
use Rattle.rows.specs.Order.{record_order}
use Rattle.rows.specs.Sorted.{sorted}
use Rattle.book.specs.Replies.{Reply, result}
use Rattle.book.specs.Step.{list}
use Rattle.book.specs.Promises.{Accepted, NoRoom}

-- A walk that found n rows, and wrote the first `room` of them over the beginning of s; d is the second value. Sorted they are those of the tries
pub record Walked (width : ℕ) (Rows : List (List ℕ) → ℕ → Type 0) (room : ℕ) (s s' : List ℕ) (n d : ℕ) : Type 0 where
  pub put : List (List ℕ)
  pub even : all (λ row. eqb (length row) width) put ≡ true
  pub count : n ≡ length put
  pub writes : s' ≡ splice s 0 (flat (take room put))
  pub are : (rows : List (List ℕ)) (second : ℕ) → Rows rows second → (sorted record_order put ≡ rows) × (d ≡ second)

-- How many rows there are, where they have no room. The store says that it holds `held`: where all of these have room, none is counted
abbrev pub Overfull : (Rows : List (List ℕ) → ℕ → Type 0) (held room : ℕ) → Option ℕ → Type 0
Overfull Rows held room None = (rows : List (List ℕ)) (second : ℕ) → Rows rows second → length rows ≤ held → length rows ≤ room
Overfull Rows held room (Some r) =
    (room < r) × (r ≤ held) × ((rows : List (List ℕ)) (second : ℕ) → Rows rows second → length rows ≤ held → r ≡ length rows)

-- Rows are written, at most `room`. Where they are those of the tries, and have room, the answer is theirs
pub record Filled (width : ℕ) (Rows : List (List ℕ) → ℕ → Type 0) (room : ℕ) (answer filled : List ℕ) (r : Reply) : Type 0 where
  pub accepted : Accepted width answer filled r
  pub ours :
      (rows : List (List ℕ)) (second : ℕ) → Rows rows second → length rows ≤ room →
      result r filled ≡ list width rows second answer

-- The rows are listed, or it is said that they have no room. Where they are those of the tries, and no more than the store says that it holds, the
-- answer is theirs
pub record Listed (width : ℕ) (Rows : List (List ℕ) → ℕ → Type 0) (held : ℕ) (answer filled : List ℕ) (r : Reply) : Type 0 where
  pub otherwise : Accepted width answer filled r ⊎ NoRoom width held answer filled r
  pub ours :
      (rows : List (List ℕ)) (second : ℕ) → Rows rows second → length rows ≤ held →
      result r filled ≡ list width rows second answer
