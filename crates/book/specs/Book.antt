-- The book. Assumes nothing: these are definitions.
use Rattle.std.specs.Prelude.{ℕ, ◌*◌, ◌^◌, ◌<◌, ◌≡◌, Bool, true, not, ◌&&◌, List, [], ◌∷◌, ◌++◌, length, eqb, ltb}
use Rattle.buffer.specs.Lists.{all, any}
use Rattle.buffer.specs.Numbers.{byte}
use Rattle.matcher.specs.Form.{path_form, is_fine}
use Rattle.rows.specs.Sizes.{reference_size}
use Rattle.rows.specs.Entry.{Entry, same_entry}
use Rattle.book.specs.Front.{Front, in_limits, need, no_store}

-- M, L, τ and a sequence of entries, oldest first
pub record Book : Type 0 where
  pub M : ℕ
  pub L : ℕ
  pub τ : ℕ
  pub entries : List Entry

-- held is their number
abbrev pub held : Book → ℕ
held b = length b.entries

abbrev pub front : Book → Front
front b = record { M = b.M; L = b.L; τ = b.τ; held = held b }

-- an accepted setup notes M, L and τ and strikes out all entries
abbrev pub fresh : ℕ → ℕ → ℕ → Book
fresh m l t = record { M = m; L = l; τ = t; entries = [] }

-- before the first accepted setup: M, L and τ are 0, outside their limits, as on memory that is all zero
abbrev pub blank : Book
blank = fresh 0 0 0

-- an accepted addition puts its entry last
abbrev pub put : Entry → Book → Book
put e b = record { M = b.M; L = b.L; τ = b.τ; entries = b.entries ++ (e ∷ []) }

-- the entry is one of them: equal in path, value and reference
abbrev pub has : List Entry → Entry → Bool
has es e = any (same_entry e) es

-- no entry is there twice
unfoldable pub distinct : List Entry → Bool
distinct [] = true
distinct (e ∷ es) = not (has es e) && distinct es

-- what an accepted entry is: a path formed as said, a value of 64 bits, a reference of 20 bytes
unfoldable pub formed : Entry → Bool
formed e = is_fine (path_form e.path) && ltb e.value (2 ^ 64) && (eqb (length e.reference) reference_size && all byte e.reference)

-- what every book is that accepted calls leave
pub record Sound (b : Book) : Type 0 where
  pub limits : in_limits b.M b.L b.τ ≡ true
  pub room : held b < b.M * 2 ^ b.L
  pub formed : all formed b.entries ≡ true
  pub once : distinct b.entries ≡ true

-- number 4 of a book: exactly where the length lent is below the need for its M and L (proved in proofs/Front.antt)
abbrev pub FourExactly : Type 0
FourExactly = (lent : ℕ) (b : Book) → Sound b → no_store lent (front b) ≡ ltb lent (need b.M b.L)
