-- The numbers of a call, and the values beside them. Assumes nothing: these are definitions.
use Rattle.std.specs.Prelude.{ℕ, zero, suc, Bool, not, cond, List, [], ◌∷◌, length, eqb, ltb}
use Rattle.matcher.specs.Form.{path_form, pattern_form, path_number, pattern_number}
use Rattle.rows.specs.Sizes.{reference_size}
use Rattle.rows.specs.Entry.{Entry}
use Rattle.entries.specs.Query.{Query}
use Rattle.book.specs.Front.{Front, in_limits, need, no_store, full}

-- a number and the two values beside it
pub record Reply : Type 0 where
  pub number : ℕ
  pub first : ℕ
  pub second : ℕ

abbrev pub reply : ℕ → ℕ → ℕ → Reply
reply n a b = record { number = n; first = a; second = b }

-- what comes back from a call: the reply, and the answer buffer's bytes afterwards (none where the call has no such buffer)
pub record Result : Type 0 where
  pub reply : Reply
  pub answer : List ℕ

abbrev pub result : Reply → List ℕ → Result
result r answer = record { reply = r; answer = answer }

-- the number n where its reason holds, else 0
infix 20 ◌when◌
abbrev pub ◌when◌ : ℕ → Bool → ℕ
n when b = cond b n 0

-- a number is returned when its reason holds and none before it does; with none, 0
abbrev pub first_of : List ℕ → ℕ
first_of [] = 0
first_of (zero ∷ ns) = first_of ns
first_of (suc n ∷ ns) = suc n

-- setup: 5, 6
unfoldable pub setup_number : ℕ → ℕ → ℕ → ℕ → ℕ
setup_number lent m l t = first_of ((5 when not (in_limits m l t)) ∷ (6 when ltb lent (need m l)) ∷ [])

-- addition: 4, 2, 1, 3, 9 (then 100)
unfoldable pub add_number : ℕ → Front → Entry → ℕ
add_number lent f e =
    first_of
    ((4 when no_store lent f) ∷ path_number (path_form e.path) ∷ (3 when not (eqb (length e.reference) reference_size))
    ∷ (9 when full f) ∷ [])

-- search: 4, 8, 7, 10 (then 11)
unfoldable pub search_number : ℕ → Front → Query → ℕ
search_number lent f q =
    first_of ((4 when no_store lent f) ∷ pattern_number (pattern_form q.pattern) ∷ (10 when ltb q.high q.low) ∷ [])

-- reading back: 4 (then 11)
unfoldable pub read_number : ℕ → Front → ℕ
read_number lent f = first_of ((4 when no_store lent f) ∷ [])
