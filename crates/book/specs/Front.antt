-- The numbers at the beginning of a store, and what they say of it. Assumes nothing: these are definitions.
use Rattle.std.specs.Prelude.{ℕ, ◌+◌, ◌-◌, ◌*◌, ◌^◌, Bool, not, ◌&&◌, ◌||◌, List, ◌++◌, eqb, leb, ltb}
use Rattle.buffer.specs.Splice.{region}
use Rattle.buffer.specs.Numbers.{bytes_of, number}

-- M, L, τ and held: 4 numbers of 32 bits
abbrev pub front_size : ℕ
front_size = 16

-- where the held number stands, the last of them
abbrev pub held_at : ℕ
held_at = 12

-- the bytes kept for them and for later requests, and those for each entry that a level can hold
abbrev pub front_room : ℕ
front_room = 4096

abbrev pub entry_room : ℕ
entry_room = 1024

-- the greatest M, L and τ
abbrev pub m_limit : ℕ
m_limit = 4096

abbrev pub l_limit : ℕ
l_limit = 8

abbrev pub τLimit : ℕ
τLimit = 100

-- M × 2^L at the most, and the bytes that such a store needs
abbrev pub entries_limit : ℕ
entries_limit = m_limit * 2 ^ l_limit

abbrev pub need_limit : ℕ
need_limit = entry_room * entries_limit + front_room

pub record Front : Type 0 where
  pub M : ℕ
  pub L : ℕ
  pub τ : ℕ
  pub held : ℕ

-- each in 32 bits, highest byte first
unfoldable pub front_bytes : Front → List ℕ
front_bytes f = bytes_of 4 f.M ++ (bytes_of 4 f.L ++ (bytes_of 4 f.τ ++ bytes_of 4 f.held))

-- .. and read from there
unfoldable pub front_of : List ℕ → Front
front_of s = record { M = number (region s 0 4); L = number (region s 4 4); τ = number (region s 8 4); held = number (region s held_at 4) }

-- the same numbers but for held
abbrev pub holding : ℕ → Front → Front
holding n f = record { M = f.M; L = f.L; τ = f.τ; held = n }

-- M is 1 to 4,096, L 1 to 8, τ 1 to 100
unfoldable pub in_limits : ℕ → ℕ → ℕ → Bool
in_limits m l t = (leb 1 m && leb m m_limit) && (leb 1 l && leb l l_limit) && (leb 1 t && leb t τLimit)

-- the bytes that a store needs
unfoldable pub need : ℕ → ℕ → ℕ
need m l = entry_room * m * 2 ^ l + front_room

-- the entries that a store can hold
unfoldable pub capacity : ℕ → ℕ → ℕ
capacity m l = m * 2 ^ l - 1

-- number 4: a store under 16 bytes, its M, L or τ outside limits, shorter than needed, or held above M × 2^L − 1
unfoldable pub no_store : ℕ → Front → Bool
no_store lent f =
    ltb lent front_size || not (in_limits f.M f.L f.τ) || ltb lent (need f.M f.L) || ltb (capacity f.M f.L) f.held

-- number 9: held is M × 2^L − 1
unfoldable pub full : Front → Bool
full f = eqb f.held (capacity f.M f.L)
