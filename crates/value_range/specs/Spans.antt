-- Which bytes behind known ones lead to a value in range, as a span of numbers. Assumes nothing: these are definitions.
use Rattle.std.specs.Prelude.{ℕ, ◌+◌, ◌-◌, ◌*◌, ◌≡◌, ◌&&◌, List, ◌++◌, length, leb}
use Rattle.buffer.specs.Numbers.{number}
use Rattle.entries.specs.Query.{Query, overlaps}

-- from..to are the steps of a width, counted from the value `first` on, in which values from low to high lie
pub record Steps (low high first width from to : ℕ) : Type 0 where
  pub are : (i : ℕ) → leb from i && leb i to ≡ leb low high && (leb (first + i * width) high && leb low (first + i * width + (width - 1)))

-- of the numbers of n bytes exactly those in from..to go on from the bytes k to some value of the range; from..to may reach beyond what n bytes hold
pub record Spans (q : Query) (k : List ℕ) (n from to : ℕ) : Type 0 where
  pub are : (r : List ℕ) → length r ≡ n → leb from (number r) && leb (number r) to ≡ overlaps q (k ++ r)
