-- The bytes of a store. Each region is as long as said, with zeros behind what stands in it:
--
--   from                        length              what
--   0                           4,096               M, L, τ, held
--   4,096                       1,024 × M           the small trie
--   4,096 + 1,024 × M × 2^i     1,024 × M × 2^i     level i
--
-- Assumes nothing: these are definitions.
use Rattle.std.specs.Prelude.{ℕ, zero, suc, ◌*◌, ◌^◌, ◌≤◌, ◌≡◌, List, ◌++◌, length, take}
unfoldable pub use Rattle.buffer.specs.Lists.{padded}
use Rattle.trie_theory.specs.Encode.{encode}
use Rattle.book.specs.Front.{Front, front_room, entry_room, front_bytes, need}
use Rattle.book.specs.Book.{Book, Sound, front}
use Rattle.book.specs.Tries.{Tries, tries}

-- the small trie and the levels below l
unfoldable pub regions : ℕ → ℕ → Tries → List ℕ
regions m zero t = padded (entry_room * m) (encode t.small)
regions m (suc l) t = regions m l t ++ padded (entry_room * m * 2 ^ l) (encode (t.level l))

-- a store with these numbers and these tries
unfoldable pub store_of : Front → Tries → List ℕ
store_of f t = padded front_room (front_bytes f) ++ regions f.M f.L t

-- the store of a book
unfoldable pub image : Book → List ℕ
image b = store_of (front b) (tries b)

-- a store's first bytes, as many as needed, are these numbers and these tries
pub record Holds (store : List ℕ) (f : Front) (t : Tries) : Type 0 where
  pub enough : need f.M f.L ≤ length store
  pub bytes : take (need f.M f.L) store ≡ store_of f t

-- .. those of a book that accepted calls leave
pub record HoldsBook (store : List ℕ) (b : Book) : Type 0 where
  pub sound : Sound b
  pub holds : Holds store (front b) (tries b)
