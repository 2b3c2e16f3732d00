-- One call on a memory that holds the book: the result is the book's, and the memory holds the book afterwards.
-- The store lent is a beginning of the memory. Where it is as long as needed it holds the book too, and the promise decides all;
-- where it is shorter, its front (or its length) gives 4, as the book does, and nothing is changed.
use Prim.Native.Nat.{ℕ, zero, suc, ◌≤◌, ◌<◌}
use mathlib.Core.Path.{◌≡◌, refl, sym, ap, ap₂, ◌∙◌}
use mathlib.Core.Bool.{Bool, true, false}
use mathlib.Core.List.{List, ◌++◌}
use native.Mathlib.Omega.{arith}
use native.Mathlib.Nat.{zero-add}
use lib.ListN.{length, take, drop, take-append-drop, length-append, length-take}
use lib.Seq.{take-take, take_at, length-take-le}
use lib.Dec.{ltb}
use borrow.Author.Tests.{ltb-true, ltb-false}
use Rattle.buffer.specs.Splice.{splice}
use Rattle.rows.specs.Entry.{Entry}
use Rattle.entries.specs.Query.{Query}
use Rattle.book.specs.Front.{front_size, front_bytes, front_of, need, no_store}
use Rattle.book.specs.Book.{Book, Sound, front}
use Rattle.book.specs.Replies.{Reply, Result, result, setup_number}
use Rattle.book.specs.Calls.{Call, setup, add, search, read_level}
use Rattle.book.specs.Step.{step}
use Rattle.book.specs.Image.{image, HoldsBook}
use Rattle.book.specs.Ran.{Did}
use Rattle.book.proofs.Front.{too_short, no_front, front_back}
use Rattle.book.proofs.Numbers.{setup_fits, add_short, search_short, read_short}
use Rattle.book.proofs.Book.{fresh_sound, step_sound, search_book, read_book, add_same}
use Rattle.book.proofs.Image.{length_image, image_front}

-- a memory of which no byte is changed, neither in what is lent nor beyond
same_memory : (n : ℕ) (a m : List ℕ) → take n a ≡ take n m → drop n a ≡ drop n m → a ≡ m
same_memory n a m t d = sym (take-append-drop n a) ∙ ap₂ ◌++◌ t d ∙ take-append-drop n m

pub need_front : (m l : ℕ) → front_size ≤ need m l
unfolding need
need_front m l = omega arith

splice_start : (s b : List ℕ) → splice s 0 b ≡ b ++ drop (length b) s
unfolding splice
splice_start s b = rw (zero-add (length b))

-- ---- the memory and what is lent of it

image_of : {memory : List ℕ} {b : Book} → HoldsBook memory b → take (need b.M b.L) memory ≡ image b
unfolding image
image_of h = h.holds.bytes

-- the memory begins with the book's M, L, τ and held
pub front_held : {memory : List ℕ} {b : Book} → HoldsBook memory b → take front_size memory ≡ front_bytes (front b)
front_held {memory} {b} h =
    sym (take-take front_size (need b.M b.L) memory (need_front b.M b.L)) ∙ ap (take front_size) (image_of h) ∙ image_front b

pub front_read : {memory : List ℕ} {b : Book} → HoldsBook memory b → front_of memory ≡ front b
front_read {memory} {b} h = front_back (front b) memory (front_held h)

-- a beginning that is as long as needed holds the book
pub part_holds : {memory : List ℕ} {b : Book} (n : ℕ) → HoldsBook memory b → n ≤ length memory → need b.M b.L ≤ n
    → HoldsBook (take n memory) b
part_holds {memory} {b} n h i e =
    record {
      sound = h.sound;
      holds = record { enough = rw (length-take-le n memory i) e; bytes = take-take (need b.M b.L) n memory e ∙ h.holds.bytes };
    }

-- so many bytes, or fewer
pub by_length : {P : Type 0} (n m : ℕ) → (n < m → P) → (m ≤ n → P) → P
by_length {P} n m fewer enough = go (ltb n m) refl
  where
    go : (w : Bool) → ltb n m ≡ w → P
    go true q = fewer (ltb-true n m q)
    go false q = enough (ltb-false n m q)

-- a shorter one is no store
part_short : {memory : List ℕ} {b : Book} (n : ℕ) → HoldsBook memory b → n < need b.M b.L → no_store n (front_of (take n memory)) ≡ true
part_short {memory} {b} n h e =
    by_length n front_size (λ q. no_front n (front_of (take n memory)) q)
    (λ q. rw (front_back (front b) (take n memory) (take-take front_size n memory q ∙ front_held h)) (too_short n (front b) e))

-- what is lent begins with the image of a book: the memory holds it
pub holds_after : (n : ℕ) (memory : List ℕ) {after : List ℕ} {b : Book} → Sound b → need b.M b.L ≤ n → n ≤ length memory
    → take n after ≡ splice (take n memory) 0 (image b) → HoldsBook after b
unfolding image
holds_after n memory {after} {b} s l i e =
    let more = drop (length (image b)) (take n memory) in
    let g : take n after ≡ image b ++ more = e ∙ splice_start (take n memory) (image b) in
    record {
      sound = s;
      holds =
          record {
            enough = omega (arith, simp (length-take, length-append, length_image b s) at (ap length g));
            bytes = sym (take-take (need b.M b.L) n after l) ∙ ap (take (need b.M b.L)) g ∙ take_at (image b) more (need b.M b.L) (length_image b s);
          };
    }

-- ---- one call

-- it gave what the book gives, and the memory holds the book after it
pub record Agrees (b : Book) (c : Call) (r : Result) (after : List ℕ) : Type 0 where
  pub result : r ≡ (step b c).result
  pub holds : HoldsBook after (step b c).book

pub result_of : (r : Result) {a : Reply} {x : List ℕ} → r.reply ≡ a → r.answer ≡ x → r ≡ result a x
result_of r p q = λ i. record { reply = p i; answer = q i }

-- an accepted setup, on whatever memory and whatever the book was
pub setup_accepted : {memory after : List ℕ} {n m l t : ℕ} {r : Result} (b : Book) → Did memory (setup n m l t) r after
    → setup_number n m l t ≡ 0 → Agrees b (setup n m l t) r after
unfolding step
setup_accepted {memory} {after} {n} {m} {l} {t} {r} b d z =
    let p = d.promise.0 in
    let f = setup_fits n m l t z in
    let z' : setup_number (length (take n memory)) m l t ≡ 0 = rw (length-take-le n memory d.inside) z in
    record {
      result = rw z (result_of r (p.answers ∙ rw z') d.promise.1);
      holds = rw z (holds_after n memory (fresh_sound m l t f.0) f.1 d.inside (p.accepted z'));
    }

-- a refused one
setup_refused : {memory after : List ℕ} {n m l t : ℕ} {r : Result} {b : Book} (k : ℕ) → HoldsBook memory b
    → Did memory (setup n m l t) r after → setup_number n m l t ≡ suc k → Agrees b (setup n m l t) r after
unfolding step
setup_refused {memory} {after} {n} {m} {l} {t} {r} {b} k h d z =
    let p = d.promise.0 in
    let z' : setup_number (length (take n memory)) m l t ≡ suc k = rw (length-take-le n memory d.inside) z in
    record {
      result = rw z (result_of r (p.answers ∙ rw z') d.promise.1);
      holds = rw (z, same_memory n after memory (p.refused k z') d.beyond) h;
    }

setup_call_lem : {memory after : List ℕ} {n m l t : ℕ} {r : Result} {b : Book} → HoldsBook memory b → Did memory (setup n m l t) r after
    → Agrees b (setup n m l t) r after
setup_call_lem {memory} {after} {n} {m} {l} {t} {r} {b} h d = go (setup_number n m l t) refl
  where
    go : (k : ℕ) → setup_number n m l t ≡ k → Agrees b (setup n m l t) r after
    go zero z = setup_accepted b d z
    go (suc k) z = setup_refused k h d z

-- lent less than needed: 4
module _ {memory after : List ℕ} {n : ℕ} {r : Result} {b : Book} (h : HoldsBook memory b) (q : n < need b.M b.L) where
  add_refused : {e : Entry} → Did memory (add n e) r after → Agrees b (add n e) r after
  unfolding step
  add_refused {e} d =
      let z = add_short n (front_of (take n memory)) e (part_short n h q) in
      let y = add_short n (front b) e (too_short n (front b) q) in
      let p = d.promise.0.refused 3 (rw (length-take-le n memory d.inside) z) in
      record { result = rw y (result_of r p.0 d.promise.1); holds = rw (y, same_memory n after memory p.1 d.beyond) h }

  search_refused : {s : Query} {answer : List ℕ} → Did memory (search n s answer) r after → r ≡ (step b (search n s answer)).result
  unfolding step
  search_refused {s} {answer} d =
      let z = search_short n (front_of (take n memory)) s (part_short n h q) in
      let y = search_short n (front b) s (too_short n (front b) q) in
      rw y (d.promise.0.refused 3 (rw (length-take-le n memory d.inside) z))

  read_refused : {i : ℕ} {answer : List ℕ} → Did memory (read_level n i answer) r after → r ≡ (step b (read_level n i answer)).result
  unfolding step
  read_refused {i} {answer} d =
      let z = read_short n (front_of (take n memory)) (part_short n h q) in
      let y = read_short n (front b) (too_short n (front b) q) in
      rw y (d.promise.0.refused 3 (rw (length-take-le n memory d.inside) z))

-- an addition, lent as much as needed
add_decided : {memory after : List ℕ} {n : ℕ} {e : Entry} {r : Result} {b : Book} → HoldsBook memory b → Did memory (add n e) r after
    → need b.M b.L ≤ n → Agrees b (add n e) r after
add_decided {memory} {after} {n} {e} {r} {b} h d q =
    let s = add_same b n e in
    let p = rw (length-take-le n memory d.inside) at (d.promise.0.ours b (part_holds n h d.inside q)) in
    record {
      result = result_of r p.0 (d.promise.1 ∙ sym s.2);
      holds = holds_after n memory (step_sound b (add n e) h.sound d.typed) (rw (s.0, s.1) q) d.inside p.1;
    }

-- ONE CALL
pub one_call : {memory after : List ℕ} (c : Call) {r : Result} {b : Book} → HoldsBook memory b → Did memory c r after → Agrees b c r after
one_call (setup n m l t) h d = setup_call_lem h d
one_call (add n e) {b = b} h d = by_length n (need b.M b.L) (λ q. add_refused h q d) (λ q. add_decided h d q)
one_call {memory} {after} (search n s answer) {b = b} h d =
    record {
      result = by_length n (need b.M b.L) (λ q. search_refused h q d)
          (λ q. rw (length-take-le n memory d.inside) at (d.promise.0.ours b (part_holds n h d.inside q)));
      holds = rw (search_book b n s answer, same_memory n after memory d.promise.1 d.beyond) h;
    }
one_call {memory} {after} (read_level n i answer) {b = b} h d =
    record {
      result = by_length n (need b.M b.L) (λ q. read_refused h q d)
          (λ q. rw (length-take-le n memory d.inside) at (d.promise.0.ours b (part_holds n h d.inside q)));
      holds = rw (read_book b n i answer, same_memory n after memory d.promise.1 d.beyond) h;
    }
