-- What the checks of an addition say of a store that was opened. Assumes nothing: these are definitions.
use Rattle.std.specs.Prelude.{ℕ, ◌≡◌, false}
use Rattle.rows.specs.Entry.{Entry}
use Rattle.book.specs.Front.{Front, no_store}
use Rattle.book.specs.Replies.{Reply, reply, add_number}

-- r has the number of an addition of the entry to a store with these numbers, and two zeros
abbrev pub Checked : ℕ → ℕ → ℕ → Entry → Reply → Type 0
Checked m l held e r = (n : ℕ) (f : Front) → m ≡ f.M → l ≡ f.L → held ≡ f.held → no_store n f ≡ false → r ≡ reply (add_number n f e) 0 0
