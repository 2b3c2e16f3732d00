-- What a writer leaves: bytes laid over a stretch of a list. Assumes nothing: these are definitions.
use Rattle.std.specs.Prelude.{ℕ, ◌+◌, List, ◌++◌, length, take, drop}

-- s with b in the place of as many elements from `at` on
unfoldable pub splice : List ℕ → ℕ → List ℕ → List ℕ
splice s at b = take at s ++ (b ++ drop (at + length b) s)

-- the n elements from `at` on
abbrev pub region : List ℕ → ℕ → ℕ → List ℕ
region s at n = take n (drop at s)
