-- One call on the memory of `fieldlog`, used or not. Assumes nothing.
use mathlib.Core.Path.{◌≡◌, refl, sym, ap, ◌∙◌}
use mathlib.Core.Bool.{Bool, true, false, ◌||◌}
use lib.Dec.{ltb}
use Prim.Native.Nat.{ℕ, zero, suc, ◌≤◌}
use mathlib.Core.List.{List}
use native.Mathlib.Omega.{arith}
use lib.ListN.{length, replicate, drop_of_length-le}
use lib.Seq.{take_all}
use Rattle.buffer.specs.Numbers.{number}
use Rattle.rows.specs.Entry.{Entry}
use Rattle.entries.specs.Query.{Query}
use Rattle.book.specs.Front.{front_size, front_of, in_limits, need, capacity, no_store}
use Rattle.book.specs.Book.{Book, Sound, front, blank}
use Rattle.book.specs.Replies.{Result, setup_number, add_number, search_number}
use Rattle.book.specs.Calls.{Call, lent, typed}
use Rattle.book.specs.Step.{step}
use Rattle.book.specs.Promises.{Promise}
use Rattle.book.specs.Ran.{Did}
use Rattle.book.proofs.OneCall.{one_call, setup_accepted, Agrees, result_of}
use Rattle.session.specs.Sizes.{store_size}
use Rattle.session.specs.Printed.{setup_call, add_call, search_call}
use Rattle.session.specs.Keeps.{Keeps, ours, unused}

-- ---- memory that is not used yet

front_unused : front_of (replicate store_size 0) ≡ front blank
unfolding front_of number
front_unused = refl

no_store_lem : (lent : ℕ) → no_store lent (front blank) ≡ true
unfolding no_store in_limits
no_store_lem lent = go (ltb lent front_size)
  where
    go : (w : Bool) → (w || true || ltb lent (need 0 0) || ltb (capacity 0 0) 0) ≡ true
    go true = refl
    go false = refl

module _ (store : List ℕ) (e : store ≡ replicate store_size 0) (n : ℕ) where
  front_is : front_of store ≡ front blank
  front_is = ap front_of e ∙ front_unused

  add_four : (x : Entry) → (add_number n (front_of store) x ≡ 4) × (add_number n (front blank) x ≡ 4)
  unfolding add_number
  add_four x = (rw (front_is, no_store_lem n), rw (no_store_lem n))

  search_four : (q : Query) → (search_number n (front_of store) q ≡ 4) × (search_number n (front blank) q ≡ 4)
  unfolding search_number
  search_four q = (rw (front_is, no_store_lem n), rw (no_store_lem n))

-- ---- one call

pub record Kept (b : Book) (c : Call) (r : Result) (after : List ℕ) : Type 0 where
  pub result : r ≡ (step b c).result
  pub keeps : Keeps after (step b c).book

from_agrees : {b : Book} {c : Call} {r : Result} {after : List ℕ} → Agrees b c r after → Kept b c r after
from_agrees a = record { result = a.result; keeps = ours a.holds }

module _ (store after : List ℕ) (r : Result) (lent-all : length store ≡ store_size) (size : length after ≡ length store) where
  whole : (c : Call) → lent c ≡ store_size → typed c ≡ true → Promise c store after r → Did store c r after
  whole c n t p =
      let e : length store ≤ lent c = omega arith in
      let e' : length after ≤ lent c = omega arith in
      record {
        typed = t;
        inside = omega arith;
        beyond = drop_of_length-le after e' ∙ sym (drop_of_length-le store e);
        promise = rw (take_all (lent c) store e, take_all (lent c) after e') p;
      }

  setup_refused : (b : Book) (m l t k : ℕ) → Promise (setup_call m l t) store after r → setup_number store_size m l t ≡ suc k → Keeps store b → Kept b (setup_call m l t) r after
  unfolding step
  setup_refused b m l t k p z h =
      let z' : setup_number (length store) m l t ≡ suc k = rw lent-all z in
      record { result = rw z (result_of r (p.0.answers ∙ rw z') p.1); keeps = rw (z, p.0.refused k z') h }

  pub kept_setup : (b : Book) (m l t : ℕ) → Promise (setup_call m l t) store after r → Keeps store b → Kept b (setup_call m l t) r after
  unfolding typed
  kept_setup b m l t p h = go (setup_number store_size m l t) refl
    where
      go : (k : ℕ) → setup_number store_size m l t ≡ k → Kept b (setup_call m l t) r after
      go zero z = from_agrees (setup_accepted b (whole (setup_call m l t) refl refl p) z)
      go (suc k) z = setup_refused b m l t k p z h

  pub kept_add : (b : Book) (x : Entry) → typed (add_call x) ≡ true → Promise (add_call x) store after r → Keeps store b → Kept b (add_call x) r after
  unfolding step
  kept_add b x t p (ours h) = from_agrees (one_call (add_call x) h (whole (add_call x) refl t p))
  kept_add b x t p (unused eb es) =
      let q = p.0.refused 3 (add_four store es (length store) x).0 in
      let y : add_number store_size (front b) x ≡ 4 = rw eb (add_four store es store_size x).1 in
      record { result = rw y (result_of r q.0 p.1); keeps = rw (y, q.1) (unused eb es) }

  pub kept_search : (b : Book) (q : Query) (answer : List ℕ) → Promise (search_call q answer) store after r → Keeps store b → Kept b (search_call q answer) r after
  unfolding step typed
  kept_search b q answer p (ours h) = from_agrees (one_call (search_call q answer) h (whole (search_call q answer) refl refl p))
  kept_search b q answer p (unused eb es) =
      let y : search_number store_size (front b) q ≡ 4 = rw eb (search_four store es store_size q).1 in
      record { result = rw y (p.0.refused 3 (search_four store es (length store) q).0); keeps = rw (y, p.1) (unused eb es) }

-- a search that is accepted is one of a book that accepted calls left
pub accepted_sound : (store : List ℕ) (b : Book) (q : Query) (answer : List ℕ) (r : Result) → Keeps store b → r ≡ (step b (search_call q answer)).result
    → r.reply.number ≡ 0 → Sound b
unfolding step
accepted_sound store b q answer r (ours h) e z = h.sound
accepted_sound store b q answer r (unused eb es) e z =
    let y : search_number store_size (front b) q ≡ 4 = rw eb (search_four store es store_size q).1 in
    let four : r.reply.number ≡ 4 = ap (λ (x : Result). x.reply.number) e ∙ rw y in
    absurd (omega arith)
