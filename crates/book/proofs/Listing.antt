-- What a listing answers, by whether its rows have room. Assumes nothing.
use Prim.Native.Nat.{ℕ, ◌*◌, ◌≤◌, ◌<◌}
use mathlib.Core.Path.{◌≡◌, ap, ◌∙◌}
use mathlib.Core.Bool.{Bool}
use mathlib.Core.List.{List, []}
use native.Mathlib.Omega.{arith}
use native.Mathlib.Nat.{zero-mul}
use lib.ListN.{length}
use borrow.Author.Tests.{lt-ltb, le-ltb}
use Rattle.buffer.specs.Lists.{flat}
use Rattle.buffer.specs.Splice.{splice}
use Rattle.buffer.proofs.Splice.{splice_nil}
use Rattle.book.specs.Replies.{reply, result}
use Rattle.book.specs.Step.{fill, list}

module _ (width : ℕ) (rows : List (List ℕ)) (second : ℕ) (answer : List ℕ) where
  pub list_room : length rows * width ≤ length answer → list width rows second answer ≡ result (reply 0 (length rows) second) (splice answer 0 (flat rows))
  unfolding list fill
  list_room h = ap (λ (w : Bool). fill w rows second answer) (le-ltb (length answer) _ (omega arith))

  pub list_over : length answer < length rows * width → list width rows second answer ≡ result (reply 11 (length rows) 0) answer
  unfolding list fill
  list_over h = ap (λ (w : Bool). fill w rows second answer) (lt-ltb (length answer) _ (omega arith))

-- no rows
pub list_none : (width second : ℕ) (answer : List ℕ) → list width [] second answer ≡ result (reply 0 0 second) answer
unfolding flat
list_none width second answer =
    list_room width [] second answer (rw (zero-mul width) (omega arith)) ∙ ap (result (reply 0 0 second)) (splice_nil answer 0)
