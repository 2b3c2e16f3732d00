-- Laws of small words about lists: what holds of every element, what some element passes, what is picked, equal lists, parts.
use Prim.Native.Nat.{ℕ, zero, suc, ◌-◌, ◌≤◌}
use Rattle.std.specs.List.{list_all}
use Rattle.buffer.proofs.Tests.{and_left, and_right, and_both}
use mathlib.Core.Path.{◌≡◌, refl, sym, ap, ap₂, ◌∙◌}
use mathlib.Core.Bool.{Bool, true, false, cond, ◌&&◌, ◌||◌, false≢true}
use mathlib.Core.List.{List, [], ◌∷◌, ◌++◌, map, append_assoc, append-nil}
use native.Mathlib.Omega.{arith}
use lib.ListN.{length, take, drop, replicate, length-append, length-drop, length-replicate, take-append-drop}
use lib.Seq.{take_all, take_at, drop_at}
use lib.Dec.{eqb}
use borrow.Author.Tests.{eqb-true, eq-eqb}
use Rattle.buffer.specs.Lists.{all, All, nil, cons, any, pick, flat, padded, same}

pub no_items : {A : Type 0} (l : List A) → length l ≡ 0 → l ≡ []
no_items [] e = refl
no_items (x ∷ l) e = let z : ◌≡◌ {A = ℕ} 0 1 = cc in absurd (omega arith)

-- std's word for the same
pub list_all_is : {A : Type 0} (t : A → Bool) (xs : List A) → list_all t xs ≡ all t xs
list_all_is t [] = refl
list_all_is t (x ∷ xs) = ap (◌&&◌ (t x)) (list_all_is t xs)

pub all_head : {A : Type 0} {P : A → Type 0} {x : A} {xs : List A} → All P (x ∷ xs) → P x
all_head (cons h a) = h

pub all_tail : {A : Type 0} {P : A → Type 0} {x : A} {xs : List A} → All P (x ∷ xs) → All P xs
all_tail (cons h a) = a

pub all_imp : {A : Type 0} {P Q : A → Type 0} {xs : List A} → ((x : A) → P x → Q x) → All P xs → All Q xs
all_imp f nil = nil
all_imp f (cons h a) = cons (f _ h) (all_imp f a)

pub all_both : {A : Type 0} {P Q : A → Type 0} {xs : List A} → All P xs → All Q xs → All (λ x. P x × Q x) xs
all_both nil b = nil
all_both (cons h a) b = cons (h, all_head b) (all_both a (all_tail b))

pub all_every : {A : Type 0} {P : A → Type 0} (xs : List A) → ((x : A) → P x) → All P xs
all_every [] f = nil
all_every (x ∷ xs) f = cons (f x) (all_every xs f)

pub all_append : {A : Type 0} {P : A → Type 0} {xs ys : List A} → All P xs → All P ys → All P (xs ++ ys)
all_append nil b = b
all_append (cons h a) b = cons h (all_append a b)

pub all_left : {A : Type 0} {P : A → Type 0} (xs ys : List A) → All P (xs ++ ys) → All P xs
all_left [] ys a = nil
all_left (x ∷ xs) ys a = cons (all_head a) (all_left xs ys (all_tail a))

pub all_right : {A : Type 0} {P : A → Type 0} (xs ys : List A) → All P (xs ++ ys) → All P ys
all_right [] ys a = a
all_right (x ∷ xs) ys a = all_right xs ys (all_tail a)

pub all_map : {A B : Type 0} {P : A → Type 0} {Q : B → Type 0} (f : A → B) → ((x : A) → P x → Q (f x)) → {xs : List A} → All P xs
    → All Q (map f xs)
all_map f g nil = nil
all_map f g (cons h a) = cons (g _ h) (all_map f g a)

pub all_unmap : {A B : Type 0} {P : A → Type 0} {Q : B → Type 0} (f : A → B) → ((x : A) → Q (f x) → P x) → (xs : List A)
    → All Q (map f xs) → All P xs
all_unmap f g [] a = nil
all_unmap f g (x ∷ xs) a = cons (g x (all_head a)) (all_unmap f g xs (all_tail a))

-- a test passed by all is passed by each, and the other way
pub all_tested : {A : Type 0} (t : A → Bool) (xs : List A) → all t xs ≡ true → All (λ x. t x ≡ true) xs
all_tested t [] e = nil
all_tested t (x ∷ xs) e = cons (and_left (t x) (all t xs) e) (all_tested t xs (and_right (t x) (all t xs) e))

pub all_test : {A : Type 0} (t : A → Bool) {xs : List A} → All (λ x. t x ≡ true) xs → all t xs ≡ true
all_test t nil = refl
all_test t (cons h a) = and_both h (all_test t a)

-- a test passed by all, of lists put together and of their parts
pub tested_append : {A : Type 0} (t : A → Bool) (xs ys : List A) → all t xs ≡ true → all t ys ≡ true → all t (xs ++ ys) ≡ true
tested_append t xs ys a b = all_test t (all_append (all_tested t xs a) (all_tested t ys b))

pub tested_left : {A : Type 0} (t : A → Bool) (xs ys : List A) → all t (xs ++ ys) ≡ true → all t xs ≡ true
tested_left t xs ys a = all_test t (all_left xs ys (all_tested t (xs ++ ys) a))

pub tested_right : {A : Type 0} (t : A → Bool) (xs ys : List A) → all t (xs ++ ys) ≡ true → all t ys ≡ true
tested_right t xs ys a = all_test t (all_right xs ys (all_tested t (xs ++ ys) a))

pub tested_take : {A : Type 0} (t : A → Bool) (n : ℕ) (xs : List A) → all t xs ≡ true → all t (take n xs) ≡ true
tested_take t n xs a = tested_left t (take n xs) (drop n xs) (ap (all t) (take-append-drop n xs) ∙ a)

pub tested_drop : {A : Type 0} (t : A → Bool) (n : ℕ) (xs : List A) → all t xs ≡ true → all t (drop n xs) ≡ true
tested_drop t n xs a = tested_right t (take n xs) (drop n xs) (ap (all t) (take-append-drop n xs) ∙ a)

-- what is picked passed the test, and what held of all holds of it
pub all_pick : {A : Type 0} {P : A → Type 0} (t : A → Bool) {xs : List A} → All P xs → All (λ x. P x × (t x ≡ true)) (pick t xs)
unfolding pick
all_pick t nil = nil
all_pick {P = P} t (cons {x = x} {xs = xs} h a) = go (t x) refl (all_pick t a)
  where
    go : (b : Bool) → t x ≡ b → All (λ x. P x × (t x ≡ true)) (pick t xs)
        → All (λ x. P x × (t x ≡ true)) (cond b (x ∷ pick t xs) (pick t xs))
    go true e r = cons (h, e) r
    go false e r = r

-- tests that agree on all pick the same; a test that all pass picks all
pub pick_agree : {A : Type 0} (t t' : A → Bool) {xs : List A} → All (λ x. t x ≡ t' x) xs → pick t xs ≡ pick t' xs
unfolding pick
pick_agree t t' nil = refl
pick_agree {A} t t' (cons {x = x} {xs = xs} h a) = λ i. cond (h i) (x ∷ pick_agree t t' a i) (pick_agree t t' a i)

pub pick_all : {A : Type 0} (t : A → Bool) (xs : List A) → all t xs ≡ true → pick t xs ≡ xs
unfolding pick
pick_all t [] h = refl
pick_all t (x ∷ xs) h = rw (and_left (t x) (all t xs) h) (ap (λ (l : List _). x ∷ l) (pick_all t xs (and_right (t x) (all t xs) h)))

pub pick_append : {A : Type 0} (t : A → Bool) (xs ys : List A) → pick t (xs ++ ys) ≡ pick t xs ++ pick t ys
unfolding pick
pick_append t [] ys = refl
pick_append t (x ∷ xs) ys = go (t x) (pick_append t xs ys)
  where
    go : (b : Bool) → pick t (xs ++ ys) ≡ pick t xs ++ pick t ys
        → cond b (x ∷ pick t (xs ++ ys)) (pick t (xs ++ ys)) ≡ cond b (x ∷ pick t xs) (pick t xs) ++ pick t ys
    go true e = ap (λ (l : List _). x ∷ l) e
    go false e = e

pub map_append : {A B : Type 0} (f : A → B) (xs ys : List A) → map f (xs ++ ys) ≡ map f xs ++ map f ys
map_append f [] ys = refl
map_append f (x ∷ xs) ys = ap (λ (l : List _). f x ∷ l) (map_append f xs ys)

-- functions that agree on all, and the one that changes nothing
pub map_agree : {A B : Type 0} {f g : A → B} {xs : List A} → All (λ x. f x ≡ g x) xs → map f xs ≡ map g xs
map_agree nil = refl
map_agree (cons h a) = ap₂ ◌∷◌ h (map_agree a)

pub map_take : {A B : Type 0} (f : A → B) (n : ℕ) (xs : List A) → map f (take n xs) ≡ take n (map f xs)
map_take f zero xs = refl
map_take f (suc n) [] = refl
map_take f (suc n) (x ∷ xs) = ap (λ (l : List _). f x ∷ l) (map_take f n xs)

pub flat_append : {A : Type 0} (xs ys : List (List A)) → flat (xs ++ ys) ≡ flat xs ++ flat ys
unfolding flat
flat_append [] ys = refl
flat_append (x ∷ xs) ys = ap (λ (l : List _). x ++ l) (flat_append xs ys) ∙ sym (append_assoc x (flat xs) (flat ys))

-- .. of what a function makes of each element: of lists put together, of one element more, and each mapped
pub flat_map_append : {A B : Type 0} (g : A → List B) (xs ys : List A) → flat (map g (xs ++ ys)) ≡ flat (map g xs) ++ flat (map g ys)
flat_map_append g xs ys = ap flat (map_append g xs ys) ∙ flat_append (map g xs) (map g ys)

pub flat_map_next : {A B : Type 0} (g : A → List B) (xs : List A) (y : A) → flat (map g (xs ++ (y ∷ []))) ≡ flat (map g xs) ++ g y
flat_map_next {A} {B} g xs y = flat_map_append g xs (y ∷ []) ∙ ap (λ (l : List B). flat (map g xs) ++ l) (unfold flat in append-nil (g y))

pub map_flat_map : {A B C : Type 0} (h : B → C) (g : A → List B) (xs : List A) → map h (flat (map g xs)) ≡ flat (map (λ x. map h (g x)) xs)
unfolding flat
map_flat_map h g [] = refl
map_flat_map {A} {B} {C} h g (x ∷ xs) = map_append h (g x) (flat (map g xs)) ∙ ap (λ (l : List C). map h (g x) ++ l) (map_flat_map h g xs)

pub all_flat_map : {A B : Type 0} {P : B → Type 0} (g : A → List B) {xs : List A} → All (λ x. All P (g x)) xs → All P (flat (map g xs))
unfolding flat
all_flat_map g nil = nil
all_flat_map g (cons h a) = all_append h (all_flat_map g a)

pub length_padded : (n : ℕ) (bs : List ℕ) → length bs ≤ n → length (padded n bs) ≡ n
unfolding padded
length_padded n bs h = length-append bs (replicate (n - length bs) 0) ∙ rw (length-replicate {A = ℕ} (n - length bs) 0) (omega arith)

pub any_append : {A : Type 0} (t : A → Bool) (xs ys : List A) → any t (xs ++ ys) ≡ any t xs || any t ys
unfolding any
any_append t [] ys = refl
any_append t (x ∷ xs) ys = ap (λ (b : Bool). t x || b) (any_append t xs ys) ∙ or_assoc (t x) (any t xs) (any t ys)
  where
    or_assoc : (a b c : Bool) → a || (b || c) ≡ (a || b) || c
    or_assoc true b c = refl
    or_assoc false b c = refl

-- x stands in a list
pub data In {A : Type 0} (x : A) : List A → Type 0 where
  at_head : {xs : List A} → In x (x ∷ xs)
  later : {y : A} {xs : List A} → In x xs → In x (y ∷ xs)

pub all_in : {A : Type 0} {P : A → Type 0} {x : A} {xs : List A} → All P xs → In x xs → P x
all_in a at_head = all_head a
all_in a (later i) = all_in (all_tail a) i

-- what stands in a list and passes the test is picked
pub in_pick : {A : Type 0} (t : A → Bool) {x : A} {xs : List A} → t x ≡ true → In x xs → In x (pick t xs)
unfolding pick
in_pick t {x} e (at_head {xs = xs}) = rw e at_head
in_pick t {x} e (later {y = y} {xs = xs} i) = go (t y) (in_pick t e i)
  where
    go : (b : Bool) → In x (pick t xs) → In x (cond b (y ∷ pick t xs) (pick t xs))
    go true r = later r
    go false r = r

-- an element that passes, and the other way
pub any_in : {A : Type 0} (t : A → Bool) (xs : List A) → any t xs ≡ true → (x : A) × In x xs × (t x ≡ true)
unfolding any
any_in t [] e = absurd (false≢true e)
any_in t (x ∷ xs) e = go (t x) refl e (any_in t xs)
  where
    go : (b : Bool) → t x ≡ b → b || any t xs ≡ true → (any t xs ≡ true → (y : _) × In y xs × (t y ≡ true))
        → (y : _) × In y (x ∷ xs) × (t y ≡ true)
    go true h e r = (x, at_head, h)
    go false h e r = let y = r e in (y.0, later y.1, y.2)

-- the test of equal lists is right, both ways
pub same_true : {A : Type 0} (t : A → A → Bool) → ((x y : A) → t x y ≡ true → x ≡ y) → (xs ys : List A) → same t xs ys ≡ true
    → xs ≡ ys
unfolding same
same_true t h [] [] e = refl
same_true t h [] (y ∷ ys) e = absurd (false≢true e)
same_true t h (x ∷ xs) [] e = absurd (false≢true e)
same_true t h (x ∷ xs) (y ∷ ys) e =
    ap₂ ◌∷◌ (h x y (and_left (t x y) (same t xs ys) e)) (same_true t h xs ys (and_right (t x y) (same t xs ys) e))

pub same_refl : {A : Type 0} (t : A → A → Bool) → ((x : A) → t x x ≡ true) → (xs : List A) → same t xs xs ≡ true
unfolding same
same_refl t h [] = refl
same_refl t h (x ∷ xs) = and_both (h x) (same_refl t h xs)

pub bytes_true : (a b : List ℕ) → same eqb a b ≡ true → a ≡ b
bytes_true a b = same_true eqb eqb-true a b

pub bytes_refl : (a : List ℕ) → same eqb a a ≡ true
bytes_refl a = same_refl eqb (λ x. eq-eqb x x refl) a

pub strings_true : (a b : List (List ℕ)) → same (same eqb) a b ≡ true → a ≡ b
strings_true a b = same_true (same eqb) bytes_true a b

pub strings_refl : (a : List (List ℕ)) → same (same eqb) a a ≡ true
strings_refl a = same_refl (same eqb) bytes_refl a

-- the two halves of equal lists, the first ones equally long
pub halves : (a c b d : List ℕ) → length a ≡ length c → a ++ b ≡ c ++ d → (a ≡ c) × (b ≡ d)
halves a c b d l e = (
  sym (take_at a b (length a) refl) ∙ ap (take (length a)) e ∙ take_at c d (length a) (sym l),
  sym (drop_at a b (length a) refl) ∙ ap (drop (length a)) e ∙ drop_at c d (length a) (sym l),
)

-- a part that runs to the end
pub tail_part : {A : Type 0} (n : ℕ) (l : List A) → take (length l - n) (drop n l) ≡ drop n l
tail_part n l = take_all (length l - n) (drop n l) (simp length-drop (omega arith))
