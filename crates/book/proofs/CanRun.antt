-- Demand 3 speaks of something: every list of calls that begins with a setup to be accepted can be run, each call keeping its promise.
use Prim.Native.Nat.{ℕ, zero, suc, ◌≤◌, ◌<◌}
use mathlib.Core.Path.{◌≡◌, refl, sym, ap, ◌∙◌, subst}
use mathlib.Core.Bool.{true}
use mathlib.Core.List.{List, [], ◌∷◌, ◌++◌}
use native.Mathlib.Omega.{arith}
use lib.ListN.{length, take, drop, length-append, length-drop}
use lib.Seq.{take_at, drop_at, take-take, length-take-le}
use lib.Dec.{leb}
use borrow.Author.Tests.{leb-true}
use Rattle.buffer.specs.Lists.{all}
use Rattle.buffer.specs.Splice.{splice}
use Rattle.buffer.proofs.Tests.{and_left, and_right}
use Rattle.buffer.proofs.Splice.{length_splice}
use Rattle.rows.specs.Entry.{Entry}
use Rattle.entries.specs.Query.{Query}
use Rattle.book.specs.Front.{Front, front_size, front_of, need}
use Rattle.book.specs.Book.{Book, blank, front, fresh}
use Rattle.book.specs.Replies.{reply, Result, result, setup_number, search_number, read_number}
use Rattle.book.specs.Calls.{Call, setup, add, search, read_level, lent, typed}
use Rattle.book.specs.Step.{step}
use Rattle.book.specs.Image.{image, HoldsBook}
use Rattle.book.specs.Promises.{Promise}
use Rattle.book.specs.Ran.{Did, Ran, done, next, begun}
use Rattle.book.specs.Demand3.{makeable, EachCanRun}
use Rattle.book.proofs.Front.{front_back}
use Rattle.book.proofs.Numbers.{setup_fits}
use Rattle.book.proofs.Book.{fresh_sound}
use Rattle.book.proofs.Image.{length_image}
use Rattle.book.proofs.OneCall.{need_front, front_held, front_read, by_length, part_holds, one_call, setup_accepted}
use Rattle.book.proofs.Kept.{search_kept, search_foreign, read_kept, read_foreign, stepped, written, after_length, add_kept, add_foreign}

-- a call that was made
record Made (memory : List ℕ) (c : Call) : Type 0 where
  result : Result
  after : List ℕ
  did : Did memory c result after
  size : length after ≡ length memory

-- one that leaves the memory as it is
leaves : (memory : List ℕ) (c : Call) (r : Result) → typed c ≡ true → lent c ≤ length memory → Promise c (take (lent c) memory) (take (lent c) memory) r
    → Made memory c
leaves memory c r t i p = record { result = r; after = memory; did = record { typed = t; inside = i; beyond = refl; promise = p }; size = refl }

-- one that writes what is lent
writes : (memory : List ℕ) (c : Call) (r : Result) (store : List ℕ) → typed c ≡ true → lent c ≤ length memory → length store ≡ lent c
    → Promise c (take (lent c) memory) store r → Made memory c
writes memory c r store t i e p =
    let rest = drop (lent c) memory in
    record {
      result = r;
      after = store ++ rest;
      did =
          record {
            typed = t;
            inside = i;
            beyond = drop_at store rest (lent c) e;
            promise = subst (λ (s : List ℕ). Promise c (take (lent c) memory) s r) (sym (take_at store rest (lent c) e)) p;
          };
      size = simp (length-append, length-drop, e) (omega arith);
    }

-- less than the need of the book in memory holds no book
holds_none : {memory : List ℕ} {b : Book} (n : ℕ) → HoldsBook memory b → n ≤ length memory → n < need b.M b.L → (b' : Book)
    → HoldsBook (take n memory) b' → ⊥
holds_none {memory} {b} n h i l b' h' =
    let e : length (take n memory) ≡ n = length-take-le n memory i in
    let low : front_size ≤ n = omega (arith, need_front b'.M b'.L, h'.holds.enough) in
    let f : front b ≡ front b' = sym (front_back (front b) (take n memory) (take-take front_size n memory low ∙ front_held h)) ∙ front_read h' in
    let q : need b.M b.L ≡ need b'.M b'.L = ap (λ (f : Front). need f.M f.L) f in
    omega (arith, h'.holds.enough)

-- ---- the four calls

make_setup : (memory : List ℕ) (n m l t : ℕ) → n ≤ length memory → Made memory (setup n m l t)
unfolding typed
make_setup memory n m l t i = go (setup_number (length (take n memory)) m l t) refl
  where
    store : List ℕ
    store = take n memory

    go : (k : ℕ) → setup_number (length (take n memory)) m l t ≡ k → Made memory (setup n m l t)
    go zero e =
        let f = setup_fits (length store) m l t e in
        let w : length (image (fresh m l t)) ≡ need m l = length_image (fresh m l t) (fresh_sound m l t f.0) in
        writes memory (setup n m l t) (result (reply (setup_number (length store) m l t) 0 0) []) (splice store 0 (image (fresh m l t))) refl i
        (length_splice store 0 (image (fresh m l t)) (omega (arith, f.1)) ∙ length-take-le n memory i)
        (record { answers = refl; refused = λ k q. absurd (let z : ◌≡◌ {A = ℕ} 0 (suc k) = sym e ∙ q in omega arith); accepted = λ q. refl }, refl)
    go (suc k) e =
        leaves memory (setup n m l t) (result (reply (setup_number (length store) m l t) 0 0) []) refl i
        (record { answers = refl; refused = λ j q. refl; accepted = λ q. absurd (let z : ◌≡◌ {A = ℕ} 0 (suc k) = sym q ∙ e in omega arith) }, refl)

module _ {memory : List ℕ} {b : Book} (n : ℕ) (h : HoldsBook memory b) (i : n ≤ length memory) where
  make_search : (q : Query) (answer : List ℕ) → Made memory (search n q answer)
  unfolding typed
  make_search q answer =
      by_length n (need b.M b.L)
      (λ z. leaves memory (search n q answer) (result (reply (search_number (length (take n memory)) (front_of (take n memory)) q) 0 0) answer) refl i
      (search_foreign q (take n memory) answer (holds_none n h i z), refl))
      (λ z. leaves memory (search n q answer) (step b (search (length (take n memory)) q answer)).result refl i (search_kept q answer (part_holds n h i z), refl))

  make_read : (j : ℕ) (answer : List ℕ) → Made memory (read_level n j answer)
  unfolding typed
  make_read j answer =
      by_length n (need b.M b.L)
      (λ z. leaves memory (read_level n j answer) (result (reply (read_number (length (take n memory)) (front_of (take n memory))) 0 0) answer) refl i
      (read_foreign j (take n memory) answer (holds_none n h i z), refl))
      (λ z. leaves memory (read_level n j answer) (step b (read_level (length (take n memory)) j answer)).result refl i (read_kept j answer (part_holds n h i z), refl))

  make_add : (e : Entry) → typed (add n e) ≡ true → Made memory (add n e)
  make_add e t =
      by_length n (need b.M b.L)
      (λ z. let f = add_foreign e (take n memory) (holds_none n h i z) in leaves memory (add n e) (result f.0 []) t i (f.1, refl))
      enough
    where
      typed_at : typed (add (length (take n memory)) e) ≡ true
      typed_at = rw (length-take-le n memory i) t

      enough : need b.M b.L ≤ n → Made memory (add n e)
      enough z =
          let p = part_holds n h i z in
          writes memory (add n e) (result (step b (add (length (take n memory)) e)).result.reply []) (written e p typed_at) t i
          (after_length e p typed_at ∙ length-take-le n memory i) (unfold stepped in add_kept e p typed_at, refl)

make : {memory : List ℕ} {b : Book} (c : Call) → HoldsBook memory b → typed c ≡ true → lent c ≤ length memory → Made memory c
make {memory} (setup n m l t) h ty i = make_setup memory n m l t i
make (add n e) h ty i = make_add n h i e ty
make (search n q answer) h ty i = make_search n h i q answer
make (read_level n j answer) h ty i = make_read n h i j answer

-- ---- lists of calls

from_book : (cs : List Call) {memory : List ℕ} {b : Book} → HoldsBook memory b → all (makeable (length memory)) cs ≡ true
    → (rs : List Result) × (end : List ℕ) × Ran memory cs rs end
from_book [] {memory} h a = ([], memory, done)
from_book (c ∷ cs) {memory} h a =
    let f = and_left (makeable (length memory) c) (all (makeable (length memory)) cs) a in
    let m = make c h (and_left (typed c) (leb (lent c) (length memory)) f) (leb-true (lent c) (length memory) (and_right (typed c) (leb (lent c) (length memory)) f)) in
    let g = one_call c h m.did in
    let r = from_book cs g.holds (subst (λ (k : ℕ). all (makeable k) cs ≡ true) (sym m.size) (and_right (makeable (length memory) c) (all (makeable (length memory)) cs) a)) in
    (m.result ∷ r.0, r.1, next m.did r.2)

-- DEMAND 3 SPEAKS OF SOMETHING
pub can_run : EachCanRun
can_run memory n m l t cs z a =
    let c = setup n m l t in
    let f = and_left (makeable (length memory) c) (all (makeable (length memory)) cs) a in
    let i : n ≤ length memory = leb-true n (length memory) (and_right (typed c) (leb n (length memory)) f) in
    let d = make_setup memory n m l t i in
    let g = setup_accepted blank d.did z in
    let r = from_book cs g.holds (subst (λ (k : ℕ). all (makeable k) cs ≡ true) (sym d.size) (and_right (makeable (length memory) c) (all (makeable (length memory)) cs) a)) in
    record {
      results = d.result ∷ r.0;
      end = r.1;
      ran = next d.did r.2;
      begins = begun (ap (λ (x : Result). x.reply.number) g.result ∙ accepted_zero z);
    }
  where
    accepted_zero : setup_number n m l t ≡ 0 → (step blank (setup n m l t)).result.reply.number ≡ 0
    accepted_zero z = unfold step in rw z
