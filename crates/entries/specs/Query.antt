-- What a search asks of entries: a pattern and a range of values, both ends included. Assumes nothing: these are definitions.
use Rattle.std.specs.Prelude.{ℕ, ◌-◌, Bool, true, false, cond, ◌&&◌, List, ◌++◌, length, replicate, eqb, leb}
use Rattle.buffer.specs.Numbers.{number}
use Rattle.matcher.specs.Matches.{matches}
use Rattle.matcher.specs.Reach.{reach_of, goes_on}
use Rattle.matcher.specs.declared.reach.Answer.{Answer}
use Rattle.matcher.specs.declared.reach.Answer.TheVariants.{Match, Mismatch, Incomplete}
use Rattle.rows.specs.Sizes.{value_size}
use Rattle.rows.specs.Entry.{Entry}
use Rattle.trie_theory.specs.Forest.{Strings, Key}
use Rattle.trie_theory.specs.Strings.{at}

pub record Query : Type 0 where
  pub pattern : List ℕ
  pub low : ℕ
  pub high : ℕ

abbrev pub asked : List ℕ → ℕ → ℕ → Query
asked pattern low high = record { pattern = pattern; low = low; high = high }

unfoldable pub in_range : Query → ℕ → Bool
in_range q v = leb q.low v && leb v q.high

-- the path matches, and the value is in range
unfoldable pub matches_entry : Query → Entry → Bool
matches_entry q e = matches q.pattern e.path && in_range q e.value

-- the lowest and the highest value that begin with the bytes k
unfoldable pub lowest : List ℕ → ℕ
lowest k = number (k ++ replicate (value_size - length k) 0)

unfoldable pub highest : List ℕ → ℕ
highest k = number (k ++ replicate (value_size - length k) 255)

-- some value that begins with the bytes k is in range
unfoldable pub overlaps : Query → List ℕ → Bool
overlaps q k = leb q.low q.high && (leb (length k) value_size && (leb (lowest k) q.high && leb q.low (highest k)))

-- the answer for the value: match where it is known whole, incomplete where not, mismatch where no value of the range begins so
unfoldable pub value_reach : Query → List ℕ → Answer
value_reach q k = cond (overlaps q k) (cond (eqb (length k) value_size) Match Incomplete) Mismatch

abbrev pub is_match : Answer → Bool
is_match Match = true
is_match Incomplete = false
is_match Mismatch = false

-- known bytes can be continued to a path that matches and a value in range
unfoldable pub reaches : Query → Strings → Bool
reaches q k = goes_on (value_reach q (at 0 k)) && goes_on (reach_of q.pattern (at 1 k))

-- a whole key matches in both dimensions
unfoldable pub wants : Query → Key → Bool
wants q x = is_match (value_reach q (at 0 x.strings)) && is_match (reach_of q.pattern (at 1 x.strings))
