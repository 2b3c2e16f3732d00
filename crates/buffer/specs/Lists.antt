-- Small words about lists: what holds of every element, what is picked, how many there are. Assumes nothing: these are definitions.
use Rattle.std.specs.Prelude.{ℕ, suc, ◌+◌, ◌-◌, Bool, true, false, cond, ◌&&◌, ◌||◌, List, [], ◌∷◌, ◌++◌, length, replicate}

-- the list is empty
abbrev pub none : {A : Type 0} → List A → Bool
none [] = true
none (x ∷ s) = false

-- every element passes the test
abbrev pub all : {A : Type 0} → (A → Bool) → List A → Bool
all f [] = true
all f (x ∷ s) = f x && all f s

-- P holds of every element
pub data All {A : Type 0} (P : A → Type 0) : List A → Type 0 where
  nil : All P []
  cons : {x : A} {xs : List A} → P x → All P xs → All P (x ∷ xs)

-- some element passes the test
unfoldable pub any : {A : Type 0} → (A → Bool) → List A → Bool
any t [] = false
any t (x ∷ xs) = t x || any t xs

-- the elements that pass the test, in their sequence
unfoldable pub pick : {A : Type 0} → (A → Bool) → List A → List A
pick t [] = []
pick t (x ∷ xs) = cond (t x) (x ∷ pick t xs) (pick t xs)

-- the sum of h over a list
unfoldable pub sum : {A : Type 0} → (A → ℕ) → List A → ℕ
sum h [] = 0
sum h (x ∷ xs) = h x + sum h xs

-- how many pass the test
unfoldable pub count : {A : Type 0} → (A → Bool) → List A → ℕ
count t [] = 0
count t (x ∷ xs) = cond (t x) (suc (count t xs)) (count t xs)

-- lists one after the other
unfoldable pub flat : {A : Type 0} → List (List A) → List A
flat [] = []
flat (x ∷ xs) = x ++ flat xs

-- bytes with zeros behind them, n in all
unfoldable pub padded : ℕ → List ℕ → List ℕ
padded n bs = bs ++ replicate (n - length bs) 0

-- equal lists, by a test of their elements
unfoldable pub same : {A : Type 0} → (A → A → Bool) → List A → List A → Bool
same t [] [] = true
same t [] (y ∷ ys) = false
same t (x ∷ xs) [] = false
same t (x ∷ xs) (y ∷ ys) = t x y && same t xs ys
