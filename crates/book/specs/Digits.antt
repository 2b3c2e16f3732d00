-- The rule of digits: which entries lie in which level. Assumes nothing: these are definitions.
use Rattle.std.specs.Prelude.{ℕ, suc, ◌*◌, ◌/◌, ◌%◌, ◌^◌, List, length, take, drop}
use Rattle.rows.specs.Entry.{Entry}

-- binary digit i of n
unfoldable pub digit : ℕ → ℕ → ℕ
digit i n = (n / 2 ^ i) % 2

-- held ÷ M, rounded down
unfoldable pub quotient : ℕ → List Entry → ℕ
quotient m es = length es / m

-- level i has M × 2^i entries where digit i of held ÷ M is 1, and none otherwise
unfoldable pub level_size : ℕ → ℕ → List Entry → ℕ
level_size m i es = m * 2 ^ i * digit i (quotient m es)

-- oldest in the highest: before the entries of level i stand those of all higher levels
unfoldable pub level_start : ℕ → ℕ → List Entry → ℕ
level_start m i es = m * 2 ^ suc i * (quotient m es / 2 ^ suc i)

-- the entries of level i, oldest first
unfoldable pub level : ℕ → ℕ → List Entry → List Entry
level m i es = take (level_size m i es) (drop (level_start m i es) es)

-- the last entries, as many as held ÷ M leaves over: the small trie's
unfoldable pub small : ℕ → List Entry → List Entry
small m es = drop (m * quotient m es) es
