-- Number 4, by the tests one after another. Assumes nothing.
use mathlib.Core.Path.{◌≡◌, refl}
use mathlib.Core.Bool.{Bool, true, false, not, ◌||◌, true≢false}
use Prim.Native.Nat.{ℕ, ◌-◌, ◌*◌, ◌^◌, ◌≤◌, ◌<◌}
use mathlib.Core.List.{List}
use native.Mathlib.Omega.{arith}
use lib.ListN.{length}
use lib.Dec.{ltb}
use borrow.Author.Tests.{lt-ltb, le-ltb, ltb-false, not-false}
use native.Mathlib.Nat.{mul-le-mul}
use lib.Pow.{pow_pos}
use Rattle.book.proofs.Front.{Within, within, too_short}
use Rattle.std.specs.Prelude.{Ok, Err}
use Rattle.store.specs.Opening.{Reads, OpenedNumber}
use Rattle.store.specs.declared.front.Front as Code
use Rattle.book.specs.Front.{Front, front_size, front_of, in_limits, need, capacity, no_store}
use Rattle.book.specs.Replies.{read_number}

second : (a c d : Bool) → a || not false || c || d ≡ true
second true c d = refl
second false c d = refl

fourth : (a b c : Bool) → a || b || c || true ≡ true
fourth true b c = refl
fourth false true c = refl
fourth false false true = refl
fourth false false false = refl

module _ (n : ℕ) (f : Front) where
  pub bad_limits : in_limits f.M f.L f.τ ≡ false → no_store n f ≡ true
  unfolding no_store
  bad_limits e = rw e (second (ltb n front_size) (ltb n (need f.M f.L)) (ltb (capacity f.M f.L) f.held))

  pub bad_held : 0 < f.M * 2 ^ f.L → f.M * 2 ^ f.L ≤ f.held → no_store n f ≡ true
  unfolding no_store capacity
  bad_held p h =
      let k : f.M * 2 ^ f.L - 1 < f.held = omega arith in
      rw (lt-ltb (f.M * 2 ^ f.L - 1) f.held k) (fourth (ltb n front_size) (not (in_limits f.M f.L f.τ)) (ltb n (need f.M f.L)))

  pub a_store : front_size ≤ n → in_limits f.M f.L f.τ ≡ true → need f.M f.L ≤ n → f.held < f.M * 2 ^ f.L → no_store n f ≡ false
  unfolding no_store capacity
  a_store h e k l =
      let q : f.held ≤ f.M * 2 ^ f.L - 1 = omega arith in
      rw (le-ltb n front_size h, e, le-ltb n (need f.M f.L) k, le-ltb (f.M * 2 ^ f.L - 1) f.held q)

-- the same of the numbers that the code has read
module _ (s : List ℕ) (g : Code.Front) (r : Reads s g) where
  abbrev f : Front
  f = front_of s

  limits : (b : Bool) → in_limits g.m g.l g.tau ≡ b → in_limits f.M f.L f.τ ≡ b
  limits b e = rw (r.m_is, r.l_is, r.tau_is) at e

  pub no_length : (n : ℕ) → n ≡ need g.m g.l → length s < n → no_store (length s) f ≡ true
  no_length n e h = too_short (length s) f (rw (← r.m_is, ← r.l_is, ← e) h)

  pub no_held : in_limits g.m g.l g.tau ≡ true → g.m * 2 ^ g.l ≤ g.held → no_store (length s) f ≡ true
  no_held w h =
      let some : 0 < g.m * 2 ^ g.l = mul-le-mul (within _ _ _ w).m_low (pow_pos g.l) in
      bad_held (length s) f (rw (r.m_is, r.l_is) at some) (rw (r.m_is, r.l_is, r.held_is) at h)

  pub opened : (n : ℕ) → front_size ≤ length s → in_limits g.m g.l g.tau ≡ true → n ≡ need g.m g.l → n ≤ length s → g.held < g.m * 2 ^ g.l
      → no_store (length s) f ≡ false
  opened n a w e k h =
      a_store (length s) f a (limits true w) (rw (← r.m_is, ← r.l_is, ← e) k) (rw (r.m_is, r.l_is, r.held_is) at h)

-- WHAT A STORE IS THAT IS NOT 4
pub record Stored (n : ℕ) (f : Front) : Type 0 where
  pub limits : Within f.M f.L f.τ
  pub enough : need f.M f.L ≤ n
  pub inside : f.held < f.M * 2 ^ f.L

four_false : (a b c d : Bool) → a || b || c || d ≡ false → (a ≡ false) × (b ≡ false) × (c ≡ false) × (d ≡ false)
four_false true b c d e = absurd (true≢false e)
four_false false true c d e = absurd (true≢false e)
four_false false false true d e = absurd (true≢false e)
four_false false false false true e = absurd (true≢false e)
four_false false false false false e = (refl, refl, refl, refl)

pub stored : (n : ℕ) (f : Front) → no_store n f ≡ false → Stored n f
unfolding no_store capacity
stored n f e =
    let p = four_false (ltb n front_size) (not (in_limits f.M f.L f.τ)) (ltb n (need f.M f.L)) (ltb (f.M * 2 ^ f.L - 1) f.held) e in
    let w = within f.M f.L f.τ (not-false (in_limits f.M f.L f.τ) p.1) in
    let some : 0 < f.M * 2 ^ f.L = mul-le-mul w.m_low (pow_pos f.L) in
    record { limits = w; enough = ltb-false n (need f.M f.L) p.2; inside = omega (arith, some, ltb-false (f.M * 2 ^ f.L - 1) f.held p.3) }

pub opened_number_lem : OpenedNumber
unfolding read_number
opened_number_lem s (Ok x) o = rw o.2
opened_number_lem s (Err e) o = rw (o.0, o.1)
