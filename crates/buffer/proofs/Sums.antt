-- Sums over a list: the one form in which "nothing is lost or added" is proved. A count of those that pass a test, a length
-- and a number of bytes are sums.
use Prim.Native.Nat.{ℕ, suc, ◌+◌, ◌*◌, ◌≤◌}
use mathlib.Core.Path.{◌≡◌, refl, sym, ap, ◌∙◌}
use mathlib.Core.Bool.{Bool, true, false, not, cond, ◌&&◌, ◌||◌, true≢false}
use mathlib.Core.List.{List, [], ◌∷◌, ◌++◌, map}
use native.Mathlib.Nat.{mul-suc, zero-add}
use native.Mathlib.Omega.{arith}
use lib.ListN.{length}
use lib.Dec.{ltb}
use borrow.Author.Tests.{lt-ltb}
use Rattle.buffer.specs.Lists.{All, nil, cons, any, pick, sum, count, flat}
use Rattle.buffer.proofs.Lists.{all_imp}

module _ {A : Type 0} (h : A → ℕ) where
  pub sum_append : (xs ys : List A) → sum h (xs ++ ys) ≡ sum h xs + sum h ys
  unfolding sum
  sum_append [] ys = omega arith
  sum_append (x ∷ xs) ys = let e = sum_append xs ys in omega arith

  -- what is picked by one test, and the rest that another test, never passed beside it, leaves in
  pub sum_pick : (c r : A → Bool) (xs : List A) → ((x : A) → c x ≡ true → r x ≡ false)
      → sum h (pick c xs) + sum (λ x. cond (r x) (h x) 0) xs ≡ sum (λ x. cond (c x || r x) (h x) 0) xs
  unfolding sum pick
  sum_pick c r [] apart = omega arith
  sum_pick c r (x ∷ xs) apart = go (c x) refl (r x) refl (sum_pick c r xs apart)
    where
      go : (a : Bool) → c x ≡ a → (b : Bool) → r x ≡ b
          → sum h (pick c xs) + sum (λ x. cond (r x) (h x) 0) xs ≡ sum (λ x. cond (c x || r x) (h x) 0) xs
          → sum h (cond a (x ∷ pick c xs) (pick c xs)) + (cond b (h x) 0 + sum (λ x. cond (r x) (h x) 0) xs)
          ≡ cond (a || b) (h x) 0 + sum (λ x. cond (c x || r x) (h x) 0) xs
      go true e true f ih = absurd (true≢false (sym f ∙ apart x e))
      go true e false f ih = omega arith
      go false e true f ih = omega arith
      go false e false f ih = omega arith

  -- at most m each
  pub sum_most : (m : ℕ) {xs : List A} → All (λ x. h x ≤ m) xs → sum h xs ≤ m * length xs
  unfolding sum
  sum_most m nil = omega arith
  sum_most m (cons {xs = xs} l a) = omega (arith, sum_most m a, mul-suc m (length xs))

pub sum_equal : {A : Type 0} (h g : A → ℕ) {xs : List A} → All (λ x. h x ≡ g x) xs → sum h xs ≡ sum g xs
unfolding sum
sum_equal h g nil = refl
sum_equal h g (cons e a) = let r = sum_equal h g a in omega arith

pub sum_below : {A : Type 0} (h g : A → ℕ) {xs : List A} → All (λ x. h x ≤ g x) xs → sum h xs ≤ sum g xs
unfolding sum
sum_below h g nil = omega arith
sum_below h g (cons e a) = let r = sum_below h g a in omega arith

-- more by a in each is more by a in all, where there is one
pub sum_more : {A : Type 0} (a : ℕ) (h g : A → ℕ) {xs : List A} → 1 ≤ length xs → All (λ x. a + h x ≤ g x) xs
    → a + sum h xs ≤ sum g xs
unfolding sum
sum_more a h g l nil = absurd (omega arith)
sum_more a h g l (cons {xs = xs} e r) = omega (arith, sum_below h g (all_imp (λ x m. omega arith) r))

-- the sum is 0: it is 0 for each
pub sum_zero : {A : Type 0} (h : A → ℕ) (xs : List A) → sum h xs ≡ 0 → All (λ x. h x ≡ 0) xs
unfolding sum
sum_zero h [] e = nil
sum_zero h (x ∷ xs) e = cons {x = x} (omega arith) (sum_zero h xs (omega arith))

pub sum_none : {A : Type 0} (xs : List A) → sum (λ x. 0) xs ≡ 0
unfolding sum
sum_none [] = refl
sum_none (x ∷ xs) = let r = sum_none xs in omega arith

pub sum_one : {A : Type 0} (xs : List A) → sum (λ x. 1) xs ≡ length xs
unfolding sum
sum_one [] = refl
sum_one (x ∷ xs) = let r = sum_one xs in omega arith

pub sum_map : {A B : Type 0} (h : B → ℕ) (f : A → B) (xs : List A) → sum h (map f xs) ≡ sum (λ x. h (f x)) xs
unfolding sum
sum_map h f [] = refl
sum_map h f (x ∷ xs) = let r = sum_map h f xs in omega arith

pub sum_picked : {A : Type 0} (h : A → ℕ) (c : A → Bool) (xs : List A) → sum h (pick c xs) ≡ sum (λ x. cond (c x) (h x) 0) xs
unfolding sum pick
sum_picked h c [] = refl
sum_picked h c (x ∷ xs) = go (c x) (sum_picked h c xs)
  where
    go : (a : Bool) → sum h (pick c xs) ≡ sum (λ x. cond (c x) (h x) 0) xs
        → sum h (cond a (x ∷ pick c xs) (pick c xs)) ≡ cond a (h x) 0 + sum (λ x. cond (c x) (h x) 0) xs
    go true e = omega arith
    go false e = omega arith

-- some element passes: not none of them
any_positive : {A : Type 0} (t : A → Bool) (xs : List A) → any t xs ≡ ltb 0 (sum (λ x. cond (t x) 1 0) xs)
unfolding any sum
any_positive t [] = refl
any_positive t (x ∷ xs) = go (t x) (any_positive t xs)
  where
    go : (b : Bool) → any t xs ≡ ltb 0 (sum (λ x. cond (t x) 1 0) xs)
        → b || any t xs ≡ ltb 0 (cond b 1 0 + sum (λ x. cond (t x) 1 0) xs)
    go true e = sym (lt-ltb 0 (1 + sum (λ x. cond (t x) 1 0) xs) (omega arith))
    go false e = e ∙ ap (ltb 0) (sym (zero-add (sum (λ x. cond (t x) 1 0) xs)))

-- lists with equal sums: what a test decides holds of all of the one where it holds of all of the other
module _ {A : Type 0} (xs ys : List A) (equal : (h : A → ℕ) → sum h xs ≡ sum h ys) where
  pub equal_length : length xs ≡ length ys
  equal_length = sym (sum_one xs) ∙ equal (λ x. 1) ∙ sum_one ys

  pub equal_picked : (t : A → Bool) (h : A → ℕ) → sum h (pick t xs) ≡ sum h (pick t ys)
  equal_picked t h = sum_picked h t xs ∙ equal (λ x. cond (t x) (h x) 0) ∙ sym (sum_picked h t ys)

  pub equal_all : (t : A → Bool) (Q : A → Type 0) → ((x : A) → t x ≡ true → Q x) → ((x : A) → Q x → t x ≡ true) → All Q ys
      → All Q xs
  equal_all t Q f g a =
      let h : A → ℕ = λ x. cond (t x) 0 1 in
      back (sum_zero h xs (equal h ∙ sum_equal h (λ x. 0) (zeros a) ∙ sum_none ys))
    where
      zeros : {zs : List A} → All Q zs → All (λ x. ◌≡◌ {A = ℕ} (cond (t x) 0 1) 0) zs
      zeros nil = nil
      zeros (cons {x = x} q r) = cons {x = x} (rw (g x q)) (zeros r)

      one : (x : A) (b : Bool) → t x ≡ b → ◌≡◌ {A = ℕ} (cond b 0 1) 0 → Q x
      one x true e z = f x e
      one x false e z = absurd (omega arith)

      back : {zs : List A} → All (λ x. ◌≡◌ {A = ℕ} (cond (t x) 0 1) 0) zs → All Q zs
      back nil = nil
      back (cons {x = x} q r) = cons (one x (t x) refl q) (back r)

  pub equal_any : (t : A → Bool) → any t xs ≡ any t ys
  equal_any t = any_positive t xs ∙ ap (ltb 0) (equal (λ x. cond (t x) 1 0)) ∙ sym (any_positive t ys)

-- a count is a sum
pub count_sum : {A : Type 0} (t : A → Bool) (xs : List A) → count t xs ≡ sum (λ x. cond (t x) 1 0) xs
unfolding count sum
count_sum t [] = refl
count_sum t (x ∷ xs) = go (t x) (count_sum t xs)
  where
    go : (b : Bool) → count t xs ≡ sum (λ x. cond (t x) 1 0) xs
        → cond b (suc (count t xs)) (count t xs) ≡ cond b 1 0 + sum (λ x. cond (t x) 1 0) xs
    go true e = omega arith
    go false e = omega arith

pub length_pick : {A : Type 0} (t : A → Bool) (xs : List A) → length (pick t xs) ≡ count t xs
length_pick t xs = sym (sum_one (pick t xs)) ∙ sum_picked (λ x. 1) t xs ∙ sym (count_sum t xs)

pub any_count : {A : Type 0} (t : A → Bool) (xs : List A) → any t xs ≡ ltb 0 (count t xs)
any_count t xs = any_positive t xs ∙ ap (ltb 0) (sym (count_sum t xs))

pub count_append : {A : Type 0} (t : A → Bool) (xs ys : List A) → count t (xs ++ ys) ≡ count t xs + count t ys
count_append {A} t xs ys =
    let h : A → ℕ = λ x. cond (t x) 1 0 in
    omega (arith, count_sum t (xs ++ ys), sum_append h xs ys, count_sum t xs, count_sum t ys)

pub count_map : {A B : Type 0} (t : B → Bool) (f : A → B) (xs : List A) → count t (map f xs) ≡ count (λ x. t (f x)) xs
count_map t f xs = count_sum t (map f xs) ∙ sum_map (λ y. cond (t y) 1 0) f xs ∙ sym (count_sum (λ x. t (f x)) xs)

pub count_flat : {A B : Type 0} (t : B → Bool) (g : A → List B) (xs : List A) → count t (flat (map g xs)) ≡ sum (λ x. count t (g x)) xs
unfolding flat sum count
count_flat t g [] = refl
count_flat t g (x ∷ xs) = count_append t (g x) (flat (map g xs)) ∙ ap (λ (n : ℕ). count t (g x) + n) (count_flat t g xs)

pub count_agree : {A : Type 0} (t t' : A → Bool) {xs : List A} → All (λ x. t x ≡ t' x) xs → count t xs ≡ count t' xs
unfolding count
count_agree t t' nil = refl
count_agree t t' (cons {x = x} {xs = xs} h a) = λ i. cond (h i) (suc (count_agree t t' a i)) (count_agree t t' a i)

pub count_most : {A : Type 0} (t : A → Bool) (xs : List A) → count t xs ≤ length xs
unfolding count
count_most t [] = omega arith
count_most t (x ∷ xs) = go (t x) (count_most t xs)
  where
    go : (b : Bool) → count t xs ≤ length xs → cond b (suc (count t xs)) (count t xs) ≤ suc (length xs)
    go true h = omega arith
    go false h = omega arith

pub count_picked : {A : Type 0} (p t : A → Bool) (xs : List A) → count p (pick t xs) ≡ count (λ x. t x && p x) xs
unfolding count pick
count_picked p t [] = refl
count_picked p t (x ∷ xs) = go (t x) (p x) refl (count_picked p t xs)
  where
    go : (a b : Bool) → p x ≡ b → count p (pick t xs) ≡ count (λ x. t x && p x) xs
        → count p (cond a (x ∷ pick t xs) (pick t xs)) ≡ cond (a && b) (suc (count (λ x. t x && p x) xs)) (count (λ x. t x && p x) xs)
    go true true h ih = rw h (ap suc ih)
    go true false h ih = rw h ih
    go false b h ih = ih

-- what none fails, all pass
pub count_none : {A : Type 0} (t : A → Bool) (xs : List A) → count (λ x. not (t x)) xs ≡ 0 → All (λ x. t x ≡ true) xs
unfolding count
count_none t [] e = nil
count_none {A} t (x ∷ xs) e = go (t x) refl e (count_none t xs)
  where
    go : (b : Bool) → t x ≡ b → cond (not b) (suc (count (λ x. not (t x)) xs)) (count (λ x. not (t x)) xs) ≡ 0
        → (count (λ x. not (t x)) xs ≡ 0 → All (λ x. t x ≡ true) xs) → All (λ x. t x ≡ true) (x ∷ xs)
    go true h e ih = cons h (ih e)
    go false h e ih = absurd (omega arith)

pub none_count : {A : Type 0} (t : A → Bool) {xs : List A} → All (λ x. t x ≡ true) xs → count (λ x. not (t x)) xs ≡ 0
unfolding count
none_count t nil = refl
none_count t (cons {x = x} {xs = xs} h a) = rw h (none_count t a)
