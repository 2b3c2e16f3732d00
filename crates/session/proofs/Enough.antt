-- The answer buffer is always enough, and what a search then answers. Assumes nothing.
use mathlib.Core.Path.{◌≡◌, refl, ap}
use mathlib.Core.Bool.{Bool, true, false, not, ◌||◌}
use Prim.Native.Nat.{ℕ, zero, suc, ◌+◌, ◌-◌, ◌*◌, ◌^◌, ◌≤◌}
use mathlib.Core.List.{List, [], ◌∷◌, map}
use native.Mathlib.Omega.{arith}
use native.Mathlib.Nat.{mul_assoc}
use lib.ListN.{length, length-map}
use lib.Dec.{ltb}
use borrow.Author.Tests.{ltb-false, le-ltb}
use Rattle.buffer.specs.Lists.{flat, pick}
use Rattle.buffer.specs.Splice.{splice}
use Rattle.buffer.proofs.Sums.{length_pick, count_most}
use Rattle.buffer.proofs.Tests.{or_left_false, or_right_false, not-true}
use Rattle.std.proofs.Common.{Ok, Err}
use Rattle.matcher.specs.Form.{Form, pattern_form, pattern_number}
use Rattle.matcher.specs.declared.form.FormError.TheVariants.{TooLong, Malformed}
use Rattle.rows.specs.Sizes.{row_size}
use Rattle.rows.specs.Entry.{row}
use Rattle.rows.specs.Order.{entry_order}
use Rattle.rows.proofs.Sorted.{length_sorted}
use Rattle.entries.specs.Query.{Query, matches_entry}
use Rattle.book.specs.Front.{Front, front_size, in_limits, need, capacity, no_store}
use Rattle.book.specs.Book.{Book, front}
use Rattle.book.specs.Replies.{first_of, ◌when◌, reply, Result, result, search_number}
use Rattle.book.specs.Searching.{matching, nodes}
use Rattle.book.specs.Step.{step, fill, list}
use Rattle.book.proofs.Numbers.{search_short}
use Rattle.session.specs.Sizes.{store_size, answer_size}
use Rattle.session.specs.Printed.{search_call}
use Rattle.session.specs.Enough.{AlwaysEnough}

-- 65,536 bytes are 4,096 and 60 times 1,024: M × 2^L is at most 60
few_held : (f : Front) → no_store store_size f ≡ false → f.held ≤ 59
unfolding no_store need capacity
few_held f h =
    let m = f.M in
    let l = f.L in
    let none = ltb store_size front_size || not (in_limits m l f.τ) in
    let short = ltb store_size (need m l) in
    let over = ltb (capacity m l) f.held in
    let needs : 1024 * m * 2 ^ l + 4096 ≤ store_size = ltb-false store_size (need m l) (or_right_false none short (or_left_false (none || short) over h)) in
    let most : f.held ≤ m * 2 ^ l - 1 = ltb-false (capacity m l) f.held (or_right_false (none || short) over h) in
    omega (arith, mul_assoc 1024 m (2 ^ l))

module _ (b : Book) (q : Query) (z : search_number store_size (front b) q ≡ 0) where
  stored : no_store store_size (front b) ≡ false
  stored = not-true (no_store store_size (front b)) (λ t. let four = search_short store_size (front b) q t in absurd (omega (arith, z, four)))

  -- no more rows than entries
  enough : length (map row (matching q b.entries)) * row_size ≤ answer_size
  unfolding matching
  enough =
      let es = b.entries in
      let t = matches_entry q in
      omega (arith, few_held (front b) stored, count_most t es, length_pick t es, length_sorted entry_order (pick t es), length-map (matching q es) row)

  -- a search that no reason refuses is accepted, with all its rows
  pub accepted : (answer : List ℕ) → length answer ≡ answer_size → let found = matching q b.entries in
      (step b (search_call q answer)).result ≡ result (reply 0 (length found) (nodes q b)) (splice answer 0 (flat (map row found)))
  unfolding step list fill
  accepted answer e =
      let rows = map row (matching q b.entries) in
      let room : ltb (length answer) (length rows * row_size) ≡ false = le-ltb (length answer) (length rows * row_size) (omega (arith, enough)) in
      rw (z, room, length-map)

pub refused : (b : Book) (q : Query) (answer : List ℕ) (k : ℕ) → search_number store_size (front b) q ≡ suc k
    → (step b (search_call q answer)).result ≡ result (reply (suc k) 0 0) answer
unfolding step
refused b q answer k z = rw z

-- none of a search's checks gives 11
never_11 : (n : ℕ) (f : Front) (q : Query) → search_number n f q ≡ 11 → ⊥
unfolding search_number
never_11 n f q = go (no_store n f) (pattern_form q.pattern) (ltb q.high q.low)
  where
    go : (w : Bool) (p : Form) (v : Bool) → first_of ((4 when w) ∷ pattern_number p ∷ (10 when v) ∷ []) ≡ 11 → ⊥
    go true p v e = let z : ◌≡◌ {A = ℕ} 4 11 = e in omega arith
    go false (Err TooLong) v e = let z : ◌≡◌ {A = ℕ} 8 11 = e in omega arith
    go false (Err Malformed) v e = let z : ◌≡◌ {A = ℕ} 7 11 = e in omega arith
    go false (Ok fine) true e = let z : ◌≡◌ {A = ℕ} 10 11 = e in omega arith
    go false (Ok fine) false e = let z : ◌≡◌ {A = ℕ} 0 11 = e in omega arith

pub always_enough : AlwaysEnough
always_enough b q answer e eleven = go (search_number store_size (front b) q) refl
  where
    number : Result → ℕ
    number r = r.reply.number

    go : (k : ℕ) → search_number store_size (front b) q ≡ k → ⊥
    go zero z = omega (arith, eleven, ap number (accepted b q z answer e))
    go (suc k) z = never_11 store_size (front b) q (omega (arith, z, eleven, ap number (refused b q answer k z)))
