-- What an addition that no check refuses has, in figures. Assumes nothing.
use mathlib.Core.Path.{◌≡◌}
use mathlib.Core.Bool.{true, false}
use Prim.Native.Nat.{ℕ, ◌+◌, ◌*◌, ◌-◌, ◌^◌, ◌≤◌, ◌<◌}
use mathlib.Core.List.{List}
use native.Mathlib.Omega.{arith}
use lib.ListN.{length, get_or}
use lib.Dec.{ltb}
use borrow.Author.Tests.{eqb-true, eqb-false, lt-ltb}
use Rattle.buffer.specs.Lists.{all}
use Rattle.buffer.specs.Numbers.{byte}
use Rattle.buffer.proofs.Tests.{and_left, and_right, and_both}
use Rattle.rows.specs.Sizes.{reference_size}
use Rattle.rows.specs.Entry.{Entry}
use Rattle.rows.proofs.Words.{all_bytes}
use Rattle.book.specs.Front.{Front, front_of, capacity, no_store, full}
use Rattle.book.specs.Book.{formed}
use Rattle.book.specs.Replies.{add_number}
use Rattle.book.specs.Calls.{add, typed}
use Rattle.book.proofs.Numbers.{acceptable}
use Rattle.book.proofs.Keys.{as_formed, path_short}
use Rattle.store.proofs.Opening.{stored}
use Rattle.store_add.specs.Ready.{Ready}
use Rattle.store_add.proofs.Checks.{capacity_most}

pub is_typed : (n : ℕ) (e : Entry) → e.value < 2 ^ 64 → ((i : ℕ) → get_or e.reference i 0 < 256) → typed (add n e) ≡ true
unfolding typed
is_typed n e v r = and_both (lt-ltb e.value (2 ^ 64) v) (all_bytes e.reference r)

-- the checks can be made of a store that was opened
pub checkable : (m l held : ℕ) (store : List ℕ) → let f = front_of store in
    m ≡ f.M → l ≡ f.L → held ≡ f.held → no_store (length store) f ≡ false → (m ≤ 4096) × (l ≤ 8) × (held < m * 2 ^ l)
checkable m l held store em el eh e =
    let s = stored (length store) (front_of store) e in
    (omega (arith, em, s.limits.m_high), omega (arith, el, s.limits.l_high), rw (em, el, eh) s.inside)

space_left : (h x : ℕ) → h < x → (h ≡ x - 1 → ⊥) → h + 1 < x
space_left h x l n = omega (arith, n)

well_formed : (n : ℕ) (f : Front) (e : Entry) → add_number n f e ≡ 0 → typed (add n e) ≡ true → formed e ≡ true
unfolding formed typed
well_formed n f e z t =
    let a = acceptable n f e z in
    let v = and_left (ltb e.value (2 ^ 64)) (all byte e.reference) t in
    rw (a.path, v, a.reference) (and_right (ltb e.value (2 ^ 64)) (all byte e.reference) t)

pub ready : (m l tau held : ℕ) (e : Entry) (store : List ℕ) → let f = front_of store in
    m ≡ f.M → l ≡ f.L → tau ≡ f.τ → held ≡ f.held → add_number (length store) f e ≡ 0
    → e.value < 2 ^ 64 → ((i : ℕ) → get_or e.reference i 0 < 256) → Ready m l tau held e store
unfolding full capacity
ready m l tau held e store em el et eh z v r =
    let f = front_of store in
    let n = length store in
    let a = acceptable n f e z in
    let s = stored n f a.store in
    let w = s.limits in
    let t = is_typed n e v r in
    let space : held + 1 < m * 2 ^ l = rw (em, el, eh) (space_left f.held (f.M * 2 ^ f.L) s.inside (eqb-false f.held (f.M * 2 ^ f.L - 1) a.space)) in
    let m_high : m ≤ 4096 = omega (arith, em, w.m_high) in
    let l_high : l ≤ 8 = omega (arith, el, w.l_high) in
    record {
      m_is = em;
      l_is = el;
      tau_is = et;
      held_is = eh;
      accepted = z;
      types = t;
      m_low = omega (arith, em, w.m_low);
      m_high = m_high;
      l_high = l_high;
      enough = rw (em, el) s.enough;
      space = space;
      few = omega (arith, space, capacity_most m l m_high l_high);
      short = path_short e (as_formed e (well_formed n f e z t));
      twenty = eqb-true (length e.reference) reference_size a.reference;
    }
