-- What the numbers of the checks say of a call.
use Prim.Native.Nat.{ℕ, zero, suc, ◌≤◌, ◌<◌}
use mathlib.Core.Path.{◌≡◌, refl}
use mathlib.Core.Bool.{Bool, true, false, not}
use mathlib.Core.List.{[], ◌∷◌}
use native.Mathlib.Omega.{arith}
use lib.ListN.{length}
use lib.Dec.{eqb, ltb}
use borrow.Author.Tests.{not-false, ltb-false, le-ltb}
use Rattle.matcher.specs.Form.{path_form, pattern_form, path_number, pattern_number, is_fine}
use Rattle.matcher.specs.Form.{Form}
use Rattle.matcher.specs.declared.form.FormError.TheVariants.{TooLong, Malformed}
use Rattle.std.specs.Prelude.{Ok, Err}
use Rattle.rows.specs.Sizes.{reference_size}
use Rattle.rows.specs.Entry.{Entry}
use Rattle.entries.specs.Query.{Query}
use Rattle.book.specs.Front.{Front, in_limits, need, no_store, full}
use Rattle.book.specs.Replies.{first_of, ◌when◌, setup_number, add_number, search_number, read_number}

-- with no number returned each is 0
four : (a b c d : ℕ) → first_of (a ∷ b ∷ c ∷ d ∷ []) ≡ 0 → (a ≡ 0) × (b ≡ 0) × (c ≡ 0) × (d ≡ 0)
four (suc a) b c d e = absurd (let z : suc a ≡ 0 = e in omega arith)
four zero (suc b) c d e = absurd (let z : suc b ≡ 0 = e in omega arith)
four zero zero (suc c) d e = absurd (let z : suc c ≡ 0 = e in omega arith)
four zero zero zero (suc d) e = absurd (let z : suc d ≡ 0 = e in omega arith)
four zero zero zero zero e = (refl, refl, refl, refl)

off : (n : ℕ) (b : Bool) → suc n when b ≡ 0 → b ≡ false
off n true e = absurd (let z : suc n ≡ 0 = e in omega arith)
off n false e = refl

path_fine : (f : Form) → path_number f ≡ 0 → is_fine f ≡ true
path_fine (Ok x) e = refl
path_fine (Err TooLong) e = absurd (let z : ◌≡◌ {A = ℕ} 2 0 = e in omega arith)
path_fine (Err Malformed) e = absurd (let z : ◌≡◌ {A = ℕ} 1 0 = e in omega arith)

pattern_none : (f : Form) → is_fine f ≡ true → pattern_number f ≡ 0
pattern_none (Ok x) e = refl
pattern_none (Err TooLong) e = absurd (let z : ◌≡◌ {A = ℕ} 0 1 = cc in omega arith)
pattern_none (Err Malformed) e = absurd (let z : ◌≡◌ {A = ℕ} 0 1 = cc in omega arith)

-- what an addition that no reason refuses has
pub record Acceptable (n : ℕ) (f : Front) (e : Entry) : Type 0 where
  pub store : no_store n f ≡ false
  pub path : is_fine (path_form e.path) ≡ true
  pub reference : eqb (length e.reference) reference_size ≡ true
  pub space : full f ≡ false

pub acceptable : (n : ℕ) (f : Front) (e : Entry) → add_number n f e ≡ 0 → Acceptable n f e
unfolding add_number
acceptable n f e z =
    let p = four (4 when no_store n f) (path_number (path_form e.path)) (3 when not (eqb (length e.reference) reference_size)) (9 when full f) z in
    record {
      store = off 3 (no_store n f) p.0;
      path = path_fine (path_form e.path) p.1;
      reference = not-false (eqb (length e.reference) reference_size) (off 2 _ p.2);
      space = off 8 (full f) p.3;
    }

-- setup: no reason, so the limits are kept and the memory is long enough
pub setup_fits : (n m l t : ℕ) → setup_number n m l t ≡ 0 → (in_limits m l t ≡ true) × (need m l ≤ n)
unfolding setup_number
setup_fits n m l t e =
    let p = four 0 0 (5 when not (in_limits m l t)) (6 when ltb n (need m l)) e in
    (not-false (in_limits m l t) (off 4 _ p.2), ltb-false n (need m l) (off 5 _ p.3))

-- 4 comes first
pub add_short : (n : ℕ) (f : Front) (e : Entry) → no_store n f ≡ true → add_number n f e ≡ 4
unfolding add_number
add_short n f e h = rw h

pub search_short : (n : ℕ) (f : Front) (q : Query) → no_store n f ≡ true → search_number n f q ≡ 4
unfolding search_number
search_short n f q h = rw h

pub read_short : (n : ℕ) (f : Front) → no_store n f ≡ true → read_number n f ≡ 4
unfolding read_number
read_short n f h = rw h

-- a search, and a reading back, that no reason refuses
pub search_none : (n : ℕ) (f : Front) (q : Query) → no_store n f ≡ false → is_fine (pattern_form q.pattern) ≡ true → q.low ≤ q.high
    → search_number n f q ≡ 0
unfolding search_number
search_none n f q s p l = rw (s, pattern_none (pattern_form q.pattern) p, le-ltb q.high q.low l)

pub read_none : (n : ℕ) (f : Front) → no_store n f ≡ false → read_number n f ≡ 0
unfolding read_number
read_none n f s = rw s

-- 9 is said only of a full store, and no check says 100
nine : (n m k : ℕ) (b : Bool) → n < 9 → m < 9 → k < 9 → first_of (n ∷ m ∷ k ∷ (9 when b) ∷ []) ≡ 9 → b ≡ true
nine (suc n) m k b p q r e = absurd (let z : suc n ≡ 9 = e in omega arith)
nine zero (suc m) k b p q r e = absurd (let z : suc m ≡ 9 = e in omega arith)
nine zero zero (suc k) b p q r e = absurd (let z : suc k ≡ 9 = e in omega arith)
nine zero zero zero true p q r e = refl
nine zero zero zero false p q r e = absurd (let z : ◌≡◌ {A = ℕ} 0 9 = e in omega arith)

below : (n m k : ℕ) (b : Bool) → n < 9 → m < 9 → k < 9 → first_of (n ∷ m ∷ k ∷ (9 when b) ∷ []) < 100
below (suc n) m k b p q r = omega arith
below zero (suc m) k b p q r = omega arith
below zero zero (suc k) b p q r = omega arith
below zero zero zero true p q r = omega arith
below zero zero zero false p q r = omega arith

when_small : (n : ℕ) (b : Bool) → n < 9 → (n when b) < 9
when_small n true h = h
when_small n false h = omega arith

pub path_small : (f : Form) → path_number f < 9
path_small (Ok x) = omega arith
path_small (Err TooLong) = omega arith
path_small (Err Malformed) = omega arith

pub only_full : (n : ℕ) (f : Front) (e : Entry) → add_number n f e ≡ 9 → full f ≡ true
unfolding add_number
only_full n f e z = nine _ _ _ (full f) (when_small 4 (no_store n f) (omega arith)) (path_small (path_form e.path)) (when_small 3 (not (eqb (length e.reference) reference_size)) (omega arith)) z

pub add_below : (n : ℕ) (f : Front) (e : Entry) → add_number n f e < 100
unfolding add_number
add_below n f e = below _ _ _ (full f) (when_small 4 (no_store n f) (omega arith)) (path_small (path_form e.path)) (when_small 3 (not (eqb (length e.reference) reference_size)) (omega arith))
