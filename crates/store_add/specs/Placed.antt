-- What putting a new entry into the tries of a store leaves, before the held number is written; and what looking one up says. Assumes nothing:
-- these are definitions.
use Rattle.std.specs.Prelude.{ℕ, ◌+◌, ◌≡◌, Bool, List, length, take, drop}
use Rattle.buffer.specs.Lists.{any}
use Rattle.buffer.specs.Numbers.{bytes_of}
use Rattle.buffer.specs.Splice.{splice}
use Rattle.rows.specs.Entry.{Entry}
use Rattle.trie_theory.specs.Forest.{Key}
use Rattle.trie_theory.specs.Dimensions.{root}
use Rattle.trie_theory.specs.Lookup.{member}
use Rattle.book.specs.Front.{Front, held_at, front_room, need}
use Rattle.book.specs.Book.{Book, Sound, held, front, put}
use Rattle.book.specs.Tries.{Tries, every, tries}
use Rattle.book.specs.Good.{GoodTries}
use Rattle.book.specs.Image.{image, Holds}
use Rattle.store.specs.Parts.{numbered, up_to}

-- r is what is asked of the tries that the store holds
abbrev pub OfTries : ℕ → ℕ → (Tries → Bool) → List ℕ → Bool → Type 0
OfTries m l asked store r = (f : Front) (t : Tries) → f.M ≡ m → f.L ≡ l → GoodTries f t → Holds store f t → r ≡ asked t

-- whether trie k has the key, one of the first k, and one of all
abbrev pub InTrie : ℕ → ℕ → ℕ → Key → List ℕ → Bool → Type 0
InTrie m l k x = OfTries m l (λ t. member root (numbered t k) x)

abbrev pub InFirst : ℕ → ℕ → ℕ → Key → List ℕ → Bool → Type 0
InFirst m l k x = OfTries m l (λ t. any (λ g. member root g x) (up_to k t))

abbrev pub LookedUp : ℕ → ℕ → Key → List ℕ → Bool → Type 0
LookedUp m l x = OfTries m l (λ t. any (λ g. member root g x) (every l t))

-- the front and what lies beyond the need are unchanged, and with the held number one more the store of a book is the store of the book with the entry
pub record Placed (m l tau n : ℕ) (e : Entry) (store after : List ℕ) : Type 0 where
  pub size : length after ≡ length store
  pub front_kept : take front_room after ≡ take front_room store
  pub beyond : drop (need m l) after ≡ drop (need m l) store
  pub ours : (b : Book) → Sound b → Sound (put e b) → Holds store (front b) (tries b) → m ≡ b.M → l ≡ b.L → tau ≡ b.τ → n ≡ held b
      → splice after held_at (bytes_of 4 (held b + 1)) ≡ splice store 0 (image (put e b))

-- .. and then the held number is written
pub record Entered (m l tau n : ℕ) (e : Entry) (store after : List ℕ) : Type 0 where
  pub between : List ℕ
  pub placed : Placed m l tau n e store between
  pub is : after ≡ splice between held_at (bytes_of 4 (n + 1))
