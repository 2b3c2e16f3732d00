-- The calls on one lent memory. Assumes nothing: these are definitions.
use Rattle.std.specs.Prelude.{ℕ, ◌^◌, Bool, true, ◌&&◌, List, ltb}
use Rattle.buffer.specs.Lists.{all}
use Rattle.buffer.specs.Numbers.{byte}
use Rattle.rows.specs.Entry.{Entry}
use Rattle.entries.specs.Query.{Query}

-- A call: the length lent, and its other arguments. setup: M, L and τ, whatever numbers. add: path, value and reference. search: pattern, low
-- and high, and the bytes of the answer buffer. read_level: the level's number, and the bytes of the answer buffer
pub data Call : Type 0 where
  setup : (lent m l t : ℕ) → Call
  add : (lent : ℕ) (e : Entry) → Call
  search : (lent : ℕ) (q : Query) (answer : List ℕ) → Call
  read_level : (lent level : ℕ) (answer : List ℕ) → Call

abbrev pub lent : Call → ℕ
lent (setup n m l t) = n
lent (add n e) = n
lent (search n q answer) = n
lent (read_level n i answer) = n

-- what the types of the arguments say, where it matters: an entry's value has 64 bits, and its reference is of bytes
unfoldable pub typed : Call → Bool
typed (setup n m l t) = true
typed (add n e) = ltb e.value (2 ^ 64) && all byte e.reference
typed (search n q answer) = true
typed (read_level n i answer) = true
