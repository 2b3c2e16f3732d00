-- What the overflow promises. Assumes nothing: these are definitions.
use Rattle.std.specs.Prelude.{ℕ, ◌+◌, ◌*◌, ◌^◌, ◌<◌, ◌≡◌, true, List, length, take, drop}
use Rattle.buffer.specs.Numbers.{bytes_of}
use Rattle.buffer.specs.Splice.{splice}
use Rattle.rows.specs.Entry.{Entry}
use Rattle.book.specs.Front.{held_at, front_room, need}
use Rattle.book.specs.Digits.{small}
use Rattle.book.specs.Book.{Book, Sound, front, put, formed}
use Rattle.book.specs.Book as Book
use Rattle.book.specs.Tries.{tries}
use Rattle.book.specs.Image.{image, Holds}

-- On any bytes the numbers at the front stay, and so does what is not the store's. A store of ours, of a book whose small trie lacks one entry
-- of M, becomes the store of the book with the entry put, but for the held number
pub record Overflowed (m l τ held : ℕ) (e : Entry) (store after : List ℕ) : Type 0 where
  pub size : length after ≡ length store
  pub front : take front_room after ≡ take front_room store
  pub beyond : drop (need m l) after ≡ drop (need m l) store
  pub ours : (b : Book) → Sound b → formed e ≡ true → Holds store (Book.front b) (tries b) → m ≡ b.M → l ≡ b.L → τ ≡ b.τ → held ≡ Book.held b
      → length (small b.M b.entries) + 1 ≡ b.M → Book.held b + 1 < b.M * 2 ^ b.L
      → splice after held_at (bytes_of 4 (Book.held b + 1)) ≡ splice store 0 (image (put e b))
