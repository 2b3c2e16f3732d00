-- The steps of a search: how it goes down to a node, and which keys it takes. Assumes nothing: these are definitions.
use Rattle.std.specs.Prelude.{ℕ, ◌<◌, ◌≡◌, Bool, true, false, ◌&&◌, List, [], ◌∷◌, ◌++◌, length, take, Option, Some, None, MatchOption}
use Rattle.std.specs.Option.{is_some}
use Rattle.buffer.specs.Splice.{region}
use Rattle.matcher.specs.Continued.{FirstBytes}
use Rattle.matcher.specs.Reach.{reach_of}
use Rattle.matcher.specs.declared.reach.Answer.{Answer}
use Rattle.matcher.specs.declared.reach.Answer.TheVariants.{Match, Mismatch, Incomplete}
use Rattle.rows.specs.Sizes.{value_size, path_at}
use Rattle.trie_theory.specs.Forest.{Strings, Key}
use Rattle.trie_theory.specs.Dimensions.{Above, branching}
use Rattle.trie_theory.specs.Sound.{Starts}
use Rattle.trie_theory.specs.Search.{enters}
use Rattle.entries.specs.Query.{Query, value_reach, reaches, wants}
use Rattle.trie_read.specs.Shape.{above_of}
use Rattle.trie_read.specs.declared.kind.Dimension.{Dimension}
use Rattle.trie_read.specs.declared.kind.Dimension.TheVariants.{Value}
use Rattle.gather.specs.KeySlots.{has_room, has_slot, key_slot, suffix_key}
use Rattle.gather.specs.Walks.{Deeper, known_strings}
use Rattle.entries.specs.declared.known.Known.{Known}
use Rattle.value_range.specs.Spans.{Spans}
use Rattle.search.specs.declared.step.Common.{Common}
unfoldable pub use Rattle.gather.specs.KeySlots.{key_row}

-- the answer of both dimensions together
abbrev pub both : Answer → Answer → Answer
both Mismatch p = Mismatch
both Match p = p
both Incomplete Mismatch = Mismatch
both Incomplete Match = Incomplete
both Incomplete Incomplete = Incomplete

-- a search takes the keys that match and have a slot; where a path is not formed, as on bytes that our calls did not leave, it may also take others that
-- have one, or pass them over
unfoldable pub takes : Query → Key → Bool
takes q x = has_slot x && wants q x

-- Below a node at most one branching byte leads on: a search enters no child with another than `byte`
pub record OneByte (q : Query) (above : Above) (k : Strings) : Type 0 where
  pub byte : ℕ
  pub others : (s : Strings) → length s ≡ 2 → Starts above s → (branching above s ≡ byte → ⊥) → enters (reaches q) above k s ≡ false

-- What a search asks once for all tries side by side, by what stands above them: the branching bytes with which a value in range goes on, where they
-- branch in the value; where there is a node above, the answer of the dimension in which they do not branch (of a path, where the bytes known are the
-- first of one); and `one`: if true, at most one branching byte leads on
pub record InCommon (q : Query) (above : Option Dimension) (x : Known) (k : List ℕ) (r : Common) : Type 0 where
  pub bytes : above ≡ Some Value → x.value < value_size → Spans q (take x.value k) 1 r.bytes.from r.bytes.to
  pub path : above ≡ Some Value → FirstBytes (region k path_at x.path) → r.other ≡ reach_of q.pattern (region k path_at x.path)
  pub value : (above ≡ None → ⊥) → (above ≡ Some Value → ⊥) → r.other ≡ value_reach q (take x.value k)
  pub single : r.one ≡ true → OneByte q (above_of above) (known_strings x k)

-- The step to a node with two strings: they have room behind the known bytes, and, where the path's are then the first bytes of one, a search enters it
pub record Descended (q : Query) (above : Option Dimension) (x : Known) (value path : List ℕ) (k k' : List ℕ) (r : Option Known) : Type 0 where
  pub deeper : MatchOption r (Unit {0}) (Deeper x value path k k')
  pub is : FirstBytes (region k path_at x.path ++ path) → is_some r
      ≡ has_room x.value x.path value path && enters (reaches q) (above_of above) (known_strings x k) (value ∷ path ∷ [])
  pub kept : known_strings x k' ≡ known_strings x k

-- The step to a key of which a suffix has the last bytes: is it taken? Then it has a slot, and the buffer is that; and where its path is one, it matches
pub record Taken (q : Query) (x : Known) (value path reference : List ℕ) (k k' : List ℕ) (r : Bool) : Type 0 where
  pub fits : r ≡ true → has_slot (suffix_key (known_strings x k) value path reference) ≡ true
  pub is : FirstBytes (region k path_at x.path ++ path) → r ≡ takes q (suffix_key (known_strings x k) value path reference)
  pub slot : r ≡ true → k' ≡ key_slot (suffix_key (known_strings x k) value path reference)
  pub kept : known_strings x k' ≡ known_strings x k
