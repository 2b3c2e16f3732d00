-- The suffixes of a leaf in bytes, and what the first of them says. Assumes nothing: these are definitions.
use Rattle.std.specs.Prelude.{ℕ, ◌+◌, ◌<◌, ◌≡◌, List, [], ◌∷◌, ◌++◌, map, length, Option, Some, None, Result, Ok, Err, IfSome, option_map}
use Rattle.trie_theory.specs.Forest.{Key}
use Rattle.buffer.specs.Lists.{flat, All}
use Rattle.trie_theory.specs.Strings.{at}
use Rattle.trie_theory.specs.Encode.{suffix_bytes}
use Rattle.buffer.specs.Sizes.{reference_size}
use Rattle.trie_read.specs.Sizes.{suffix_size}
use Rattle.trie_read.specs.Shape.{Fixed}
use Rattle.trie_read.specs.declared.suffix.Suffix.{Suffix}
use Rattle.trie_read.specs.declared.head.Malformed.{Malformed}

abbrev pub suffixes_bytes : List Key → List ℕ
suffixes_bytes ts = flat (map suffix_bytes ts)

-- what a suffix says: the strings and the reference that are left of its key, and the bytes of the later suffixes
pub record Tail : Type 0 where
  pub value : List ℕ
  pub path : List ℕ
  pub reference : List ℕ
  pub rest : List ℕ

-- the first of suffixes
unfoldable pub tail_of : List Key → Option Tail
tail_of [] = None
tail_of (t ∷ ts) = Some (record { value = at 0 t.strings; path = at 1 t.strings; reference = t.reference; rest = suffixes_bytes ts })

abbrev pub tail_in : Suffix → Tail
tail_in x = record { value = x.value.now; path = x.path.now; reference = x.reference.now; rest = x.rest.now }

-- what was read, without the places where it stands
abbrev pub tail_told : Result (Option Suffix) Malformed → Result (Option Tail) Malformed
tail_told (Ok None) = Ok None
tail_told (Ok (Some x)) = Ok (Some (tail_in x))
tail_told (Err e) = Err e

-- the suffix stands in the bytes b, its parts one behind the other, behind two lengths, which are bytes
pub record SuffixStands (b : List ℕ) (x : Suffix) : Type 0 where
  pub lead : List ℕ
  pub is : b ≡ lead ++ (x.reference.now ++ (x.value.now ++ (x.path.now ++ x.rest.now)))
  pub lead_long : length lead ≡ 2
  pub reference_long : length x.reference.now ≡ reference_size
  pub long : length b ≡ suffix_size + length x.value.now + length x.path.now + length x.rest.now
  pub value_short : length x.value.now < 256
  pub path_short : length x.path.now < 256

-- a walk over the suffixes in the bytes b: the first, if any, and the bytes that are left
pub record NextSuffix (b : List ℕ) (r : Option Suffix) (b' : List ℕ) : Type 0 where
  pub within : IfSome r (λ x. SuffixStands b x × (b' ≡ x.rest.now))
  pub value : (ts : List Key) → All Fixed ts → b ≡ suffixes_bytes ts → option_map tail_in r ≡ tail_of ts

-- a suffix that is read stands in the bytes; there is none only where they are none
abbrev pub WithinBytes : List ℕ → Result (Option Suffix) Malformed → Type 0
WithinBytes b (Ok None) = length b ≡ 0
WithinBytes b (Ok (Some x)) = SuffixStands b x
WithinBytes b (Err e) = Unit {0}
