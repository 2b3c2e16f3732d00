-- The step leaves a sound book sound.
use Prim.Native.Nat.{ℕ, zero, suc, ◌+◌, ◌*◌, ◌-◌, ◌^◌, ◌<◌}
use mathlib.Core.Path.{◌≡◌, refl, sym, ◌∙◌, subst}
use mathlib.Core.Bool.{Bool, true, false, not, ◌||◌, true≢false}
use mathlib.Core.List.{List, [], ◌∷◌, ◌++◌}
use native.Mathlib.Omega.{arith}
use native.Mathlib.Nat.{mul-le-mul}
use lib.Pow.{pow_pos}
use lib.ListN.{length-append}
use lib.Dec.{ltb}
use borrow.Author.Tests.{eqb-false, not-true}
use Rattle.buffer.specs.Lists.{all, any}
use Rattle.buffer.specs.Numbers.{byte}
use Rattle.buffer.proofs.Tests.{and_left, and_right, or_left_false, or_right_false, or_false}
use Rattle.buffer.proofs.Lists.{all_tested, all_test, all_append, any_append}
use Rattle.buffer.specs.Lists.{nil, cons}
use Rattle.rows.specs.Entry.{Entry, same_entry}
use Rattle.rows.proofs.Rows.{same_entry_lem}
use Rattle.entries.specs.Query.{Query}
use Rattle.book.specs.Front.{in_limits, capacity, full}
use Rattle.book.specs.Book.{Book, Sound, held, front, fresh, put, has, distinct, formed}
use Rattle.book.specs.Replies.{reply, result, setup_number, add_number, search_number, read_number}
use Rattle.book.specs.Calls.{Call, setup, add, search, read_level, typed}
use Rattle.book.specs.Step.{Outcome, outcome, unless, admit, step}
use Rattle.book.proofs.Front.{within}
use Rattle.book.proofs.Numbers.{Acceptable, acceptable, setup_fits}

same_sym : (a b : Entry) → same_entry a b ≡ false → same_entry b a ≡ false
same_sym a b e = go (same_entry b a) refl
  where
    go : (w : Bool) → same_entry b a ≡ w → w ≡ false
    go true h = absurd (true≢false (sym (subst (λ (x : Entry). same_entry a x ≡ true) (sym (same_entry_lem.equal b a h)) (same_entry_lem.self a)) ∙ e))
    go false h = refl

-- one more at the end
pub all_snoc : {A : Type 0} (f : A → Bool) (xs : List A) (x : A) → all f xs ≡ true → f x ≡ true → all f (xs ++ (x ∷ [])) ≡ true
all_snoc f xs x e h = all_test f (all_append (all_tested f xs e) (cons h nil))

pub has_append : (xs ys : List Entry) (e : Entry) → has (xs ++ ys) e ≡ has xs e || has ys e
has_append xs ys e = any_append (same_entry e) xs ys

pub distinct_snoc : (es : List Entry) (e : Entry) → distinct es ≡ true → has es e ≡ false → distinct (es ++ (e ∷ [])) ≡ true
unfolding distinct any
distinct_snoc [] e d h = refl
distinct_snoc (y ∷ es) e d h =
    let p = or_left_false (same_entry e y) (has es e) h in
    let q = or_right_false (same_entry e y) (has es e) h in
    let n = not-true (has es y) (and_left (not (has es y)) (distinct es) d) in
    let m : has (es ++ (e ∷ [])) y ≡ false = has_append es (e ∷ []) y ∙ or_false (has es y) (same_entry y e || false) n (or_false (same_entry y e) false (same_sym e y p) refl) in
    rw m (distinct_snoc es e (and_right (not (has es y)) (distinct es) d) q)

-- a search and a reading back leave the book as it is
unless_book : (n : ℕ) (answer : List ℕ) (b : Book) (o : Outcome) → o.book ≡ b → (unless n answer b o).book ≡ b
unless_book zero answer b o e = e
unless_book (suc n) answer b o e = refl

pub search_book : (b : Book) (n : ℕ) (q : Query) (answer : List ℕ) → (step b (search n q answer)).book ≡ b
unfolding step
search_book b n q answer = unless_book (search_number n (front b) q) answer b _ refl

pub read_book : (b : Book) (n i : ℕ) (answer : List ℕ) → (step b (read_level n i answer)).book ≡ b
unfolding step
read_book b n i answer = unless_book (read_number n (front b)) answer b _ refl

-- an empty book is sound within the limits
pub fresh_sound : (m l t : ℕ) → in_limits m l t ≡ true → Sound (fresh m l t)
unfolding distinct
fresh_sound m l t e =
    let w = within m l t e in
    record { limits = e; room = mul-le-mul w.m_low (pow_pos l); formed = refl; once = refl }

-- an acceptable entry is formed
pub accepted_formed : (n : ℕ) (b : Book) (e : Entry) → add_number n (front b) e ≡ 0 → typed (add n e) ≡ true → formed e ≡ true
unfolding formed typed
accepted_formed n b e z t =
    let a = acceptable n (front b) e z in
    let v = and_left (ltb e.value (2 ^ 64)) (all byte e.reference) t in
    rw (a.path, v, a.reference) (and_right (ltb e.value (2 ^ 64)) (all byte e.reference) t)

-- so is a sound book with an acceptable entry that it does not have
pub put_sound : (n : ℕ) (b : Book) (e : Entry) → Sound b → Acceptable n (front b) e → typed (add n e) ≡ true → has b.entries e ≡ false
    → Sound (put e b)
unfolding full capacity formed typed
put_sound n b e s a t new =
    let v = and_left (ltb e.value (2 ^ 64)) (all byte e.reference) t in
    let r = and_right (ltb e.value (2 ^ 64)) (all byte e.reference) t in
    record {
      limits = s.limits;
      room = put_room (held b) (b.M * 2 ^ b.L) s.room (eqb-false (held b) (b.M * 2 ^ b.L - 1) a.space) (length-append b.entries (e ∷ []));
      formed = all_snoc formed b.entries e s.formed (rw (a.path, v, a.reference) r);
      once = distinct_snoc b.entries e s.once new;
    }
  where
    put_room : {k : ℕ} (h x : ℕ) → h < x → (h ≡ x - 1 → ⊥) → k ≡ h + 1 → k < x
    put_room h x l n e = omega (arith, n)

-- an addition: refused, already there, or put
pub add_sound : (b : Book) (n : ℕ) (e : Entry) → Sound b → typed (add n e) ≡ true → Sound (step b (add n e)).book
unfolding step
add_sound b n e s t = go (add_number n (front b) e) refl (has b.entries e) refl
  where
    go : (k : ℕ) → add_number n (front b) e ≡ k → (w : Bool) → has b.entries e ≡ w
        → Sound (unless k [] b (admit w e b)).book
    go zero z true h = s
    go zero z false h = put_sound n b e s (acceptable n (front b) e z) t h
    go (suc k) z w h = s

-- M, L and τ stay, and there is no answer buffer
pub add_same : (b : Book) (n : ℕ) (e : Entry) → let c = step b (add n e) in (c.book.M ≡ b.M) × (c.book.L ≡ b.L) × (c.result.answer ≡ [])
unfolding step
add_same b n e = go (add_number n (front b) e) (has b.entries e)
  where
    go : (k : ℕ) (w : Bool)
        → let c = unless k [] b (admit w e b) in (c.book.M ≡ b.M) × (c.book.L ≡ b.L) × (c.result.answer ≡ [])
    go zero true = (refl, refl, refl)
    go zero false = (refl, refl, refl)
    go (suc k) w = (refl, refl, refl)

pub setup_sound : (b : Book) (n m l t : ℕ) → Sound b → Sound (step b (setup n m l t)).book
unfolding step
setup_sound b n m l t s = go (setup_number n m l t) refl
  where
    go : (k : ℕ) → setup_number n m l t ≡ k → Sound (unless k [] b (outcome (result (reply 0 0 0) []) (fresh m l t))).book
    go zero z = fresh_sound m l t (setup_fits n m l t z).0
    go (suc k) z = s

-- EVERY STEP
pub step_sound : (b : Book) (c : Call) → Sound b → typed c ≡ true → Sound (step b c).book
step_sound b (setup n m l t) s h = setup_sound b n m l t s
step_sound b (add n e) s h = add_sound b n e s h
step_sound b (search n q answer) s h = rw (search_book b n q answer) s
step_sound b (read_level n i answer) s h = rw (read_book b n i answer) s
