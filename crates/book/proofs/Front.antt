-- The front of a store is read back as it was written, and decides number 4 as the book does.
use Prim.Native.Nat.{ℕ, ◌+◌, ◌*◌, ◌-◌, ◌^◌, ◌≤◌, ◌<◌}
use mathlib.Core.Path.{◌≡◌, refl, sym, ap, ◌∙◌}
use mathlib.Core.Bool.{Bool, true, false, not, ◌&&◌, ◌||◌}
use mathlib.Core.List.{List, ◌++◌}
use native.Mathlib.Omega.{arith}
use lib.ListN.{length, take, drop, take-append-drop}
use lib.Dec.{leb, ltb}
use borrow.Author.Tests.{leb-true, le-ltb, lt-ltb, ltb-true, ltb-false}
use Rattle.buffer.specs.Numbers.{bytes_of}
use Rattle.buffer.proofs.Digits.{number_bytes_of}
use Rattle.buffer.proofs.Tests.{and_left, and_right}
use Rattle.book.specs.Front.{Front, front_size, entry_room, front_room, front_bytes, front_of, in_limits, need, capacity, no_store}
use Rattle.book.specs.Book.{Book, Sound, held, front, FourExactly}

-- the front read from where it was written
back : (f : Front) (s : List ℕ) → front_of (front_bytes f ++ s) ≡ f
unfolding front_of front_bytes bytes_of
back f s = λ i. record { M = number_bytes_of 3 f.M i; L = number_bytes_of 3 f.L i; τ = number_bytes_of 3 f.τ i; held = number_bytes_of 3 f.held i }

pub front_back : (f : Front) (s : List ℕ) → take front_size s ≡ front_bytes f → front_of s ≡ f
front_back f s e = ap front_of (sym (take-append-drop front_size s) ∙ ap (λ (l : List ℕ). l ++ drop front_size s) e) ∙ back f (drop front_size s)

pub length_front : (f : Front) → length (front_bytes f) ≡ front_size
unfolding front_bytes bytes_of
length_front f = refl

-- the limits, as facts
pub record Within (m l t : ℕ) : Type 0 where
  pub m_low : 1 ≤ m
  pub m_high : m ≤ 4096
  pub l_low : 1 ≤ l
  pub l_high : l ≤ 8
  pub t_low : 1 ≤ t
  pub t_high : t ≤ 100

pub within : (m l t : ℕ) → in_limits m l t ≡ true → Within m l t
unfolding in_limits
within m l t e =
    let em = and_left (leb 1 m && leb m 4096) (leb 1 l && leb l 8) (and_left ((leb 1 m && leb m 4096) && (leb 1 l && leb l 8)) (leb 1 t && leb t 100) e) in
    let el = and_right (leb 1 m && leb m 4096) (leb 1 l && leb l 8) (and_left ((leb 1 m && leb m 4096) && (leb 1 l && leb l 8)) (leb 1 t && leb t 100) e) in
    let et = and_right ((leb 1 m && leb m 4096) && (leb 1 l && leb l 8)) (leb 1 t && leb t 100) e in
    record {
      m_low = leb-true 1 m (and_left (leb 1 m) (leb m 4096) em);
      m_high = leb-true m 4096 (and_right (leb 1 m) (leb m 4096) em);
      l_low = leb-true 1 l (and_left (leb 1 l) (leb l 8) el);
      l_high = leb-true l 8 (and_right (leb 1 l) (leb l 8) el);
      t_low = leb-true 1 t (and_left (leb 1 t) (leb t 100) et);
      t_high = leb-true t 100 (and_right (leb 1 t) (leb t 100) et);
    }

or_third : (a b c d : Bool) → c ≡ true → a || b || c || d ≡ true
or_third true b c d e = refl
or_third false true c d e = refl
or_third false false c d e = rw e

-- number 4 where the length lent is below the need
pub too_short : (n : ℕ) (f : Front) → n < need f.M f.L → no_store n f ≡ true
unfolding no_store
too_short n f h = or_third (ltb n front_size) (not (in_limits f.M f.L f.τ)) (ltb n (need f.M f.L)) (ltb (capacity f.M f.L) f.held) (lt-ltb n (need f.M f.L) h)

-- .. and on a store under 16 bytes
pub no_front : (n : ℕ) (f : Front) → n < front_size → no_store n f ≡ true
unfolding no_store
no_front n f h = rw (lt-ltb n front_size h)

-- for a book that accepted calls leave, only there
pub long_enough : (n : ℕ) (b : Book) → Sound b → need b.M b.L ≤ n → no_store n (front b) ≡ false
unfolding no_store need capacity
long_enough n b s h =
    let e₁ : ltb n front_size ≡ false = le-ltb n front_size (omega arith) in
    let e₂ : ltb n (entry_room * b.M * 2 ^ b.L + front_room) ≡ false = le-ltb n _ h in
    let e₃ : ltb (b.M * 2 ^ b.L - 1) (held b) ≡ false = le-ltb (b.M * 2 ^ b.L - 1) (held b) (omega (arith, s.room)) in
    rw (e₁, s.limits, e₂, e₃)

-- "4 holds exactly where the length lent is below the need for the book's M and L"
pub four_exactly : FourExactly
four_exactly n b s = go (ltb n (need b.M b.L)) refl
  where
    go : (w : Bool) → ltb n (need b.M b.L) ≡ w → no_store n (front b) ≡ w
    go true e = too_short n (front b) (ltb-true n (need b.M b.L) e)
    go false e = long_enough n b s (ltb-false n (need b.M b.L) e)
