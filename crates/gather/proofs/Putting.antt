-- Things put one after another: what the steps of a walk together put. One set of laws for loops over suffixes and over siblings, for slots,
-- for rows and for records. Assumes nothing.
use mathlib.Core.Path.{◌≡◌, refl, sym, ap, ap₂, ◌∙◌}
use mathlib.Core.Bool.{Bool, true, cond}
use mathlib.Core.Logic.{⊎_elim}
use Prim.Native.Nat.{ℕ, zero, suc, ◌+◌, ◌*◌, ◌≤◌, ◌<◌}
use mathlib.Core.List.{List, [], ◌∷◌, ◌++◌, append_assoc, append-nil, map}
use native.Mathlib.Omega.{arith}
use lib.ListN.{length, take, length-append, length-map}
use lib.Dec.{ltb}
use lib.Seq.{take_all, take-append-le}
use borrow.Author.Tests.{lt-ltb, le-ltb, eq-eqb}
use Rattle.buffer.specs.Lists.{all, flat}
use Rattle.buffer.specs.Splice.{splice}
use Rattle.buffer.proofs.Lists.{map_append, flat_append, tested_append}
use Rattle.buffer.proofs.Splice.{length_splice, splice_nil, splice_then, take_before}
use Rattle.buffer.proofs.Tests.{and_left, and_right, and_both}
use Rattle.rows.proofs.Compare.{less?}
use Rattle.rows.proofs.Records.{length_joined, wide, record_inside}
use Rattle.trie_theory.specs.Forest.{Key}
use Rattle.gather.specs.KeySlots.{has_slot, known}
use Rattle.gather.specs.Walks.{joined, written, PutBy}

-- ---- lists of things

pub joined_append : {A : Type 0} (g : A → List ℕ) (xs ys : List A) → joined g (xs ++ ys) ≡ joined g xs ++ joined g ys
unfolding joined
joined_append g xs ys = ap flat (map_append g xs ys) ∙ flat_append (map g xs) (map g ys)

joined_one : {A : Type 0} (g : A → List ℕ) (x : A) → joined g (x ∷ []) ≡ g x
unfolding joined flat
joined_one g x = append-nil (g x)

pub joined_none : {A : Type 0} (g : A → List ℕ) → joined g [] ≡ []
unfolding joined flat
joined_none g = refl

joined_take : {A : Type 0} (g : A → List ℕ) (m : ℕ) → joined g (take m []) ≡ []
joined_take g zero = joined_none g
joined_take g (suc m) = joined_none g

-- ---- what is written

module _ {T : Type 0} (g : T → List ℕ) (out room : ℕ) where
  pub written_none : (n : ℕ) (s : List ℕ) → s ≡ written g out room n [] s
  unfolding written
  written_none n s = refl

  written_one : (n w : ℕ) (s s' : List ℕ) (x : T) → length (g x) ≡ w → s' ≡ cond (ltb n room) (splice s (out + n * w) (g x)) s → s' ≡ written g out room n (x ∷ []) s
  unfolding written
  written_one n w s s' x e is = rw e is

  pub written_append : (n : ℕ) (xs ys : List T) (s : List ℕ) → written g out room n (xs ++ ys) s ≡ written g out room (n + length xs) ys (written g out room n xs s)
  unfolding written
  written_append n [] ys s = let z : n + 0 ≡ n = omega arith in rw z
  written_append n (x ∷ xs) ys s =
      let z : n + 1 + length xs ≡ n + suc (length xs) = omega arith in
      rw z at (written_append (n + 1) xs ys (cond (ltb n room) (splice s (out + n * length (g x)) (g x)) s))

-- ---- the steps

-- what tells nothing
abbrev pub Nothing : {A : Type 0} → List A → Type 0
Nothing ks = ⊥

-- the same keys, told otherwise, of bytes that are known otherwise
pub put_in : {T : Type 0} {ok : T → Bool} {g : T → List ℕ} {v p w q out room : ℕ} {A B : List T → Type 0} {n r : ℕ} {s k k₁ s' k' : List ℕ}
    (a : PutBy ok g A w q out room n s k₁ s' k' r) → known v p k' ≡ known v p k → ((ks : List T) → B ks → a.put ≡ ks) → PutBy ok g B v p out room n s k s' k' r
put_in a kept are =
    record {
      put = a.put;
      fit = a.fit;
      count = a.count;
      long = a.long;
      writes = a.writes;
      front = a.front;
      kept = kept;
      are = are;
    }

module _ {T : Type 0} {ok : T → Bool} {g : T → List ℕ} {v p out room : ℕ} where
  pub put_as : {A B : List T → Type 0} {n r : ℕ} {s k s' k' : List ℕ} (a : PutBy ok g A v p out room n s k s' k' r)
      → ((ks : List T) → B ks → a.put ≡ ks) → PutBy ok g B v p out room n s k s' k' r
  put_as a h = put_in a a.kept h

  -- none
  unfoldable pub put_none : {A : List T → Type 0} {n : ℕ} {s k k' : List ℕ} → known v p k' ≡ known v p k → ((ks : List T) → A ks → ks ≡ [])
      → PutBy ok g A v p out room n s k s k' n
  put_none {A} {n} {s} {k} {k'} kept h =
      record {
        put = [];
        fit = refl;
        count = omega arith;
        long = refl;
        writes = written_none g out room n s;
        front = refl;
        kept = kept;
        are = λ ks a. sym (h ks a);
      }

  -- some, and then some
  unfoldable pub put_then : {A B : List T → Type 0} {n m r : ℕ} {s k s' k' s'' k'' : List ℕ}
      → PutBy ok g A v p out room n s k s' k' m → PutBy ok g B v p out room m s' k' s'' k'' r → PutBy ok g Nothing v p out room n s k s'' k'' r
  put_then {A} {B} {n} {m} {r} {s} {k} {s'} {k'} {s''} {k''} a b =
      record {
        put = a.put ++ b.put;
        fit = tested_append ok a.put b.put a.fit b.fit;
        count = omega (arith, a.count, b.count, length-append a.put b.put);
        long = b.long ∙ a.long;
        writes = b.writes ∙ ap₂ (λ (i : ℕ) (t : List ℕ). written g out room i b.put t) a.count a.writes ∙ sym (written_append g out room n a.put b.put s);
        front = b.front ∙ a.front;
        kept = b.kept ∙ a.kept;
        are = λ ks z. absurd z;
      }

-- one thing: its bytes, of one width for all, are written if there is room
module _ {T : Type 0} {ok : T → Bool} (g : T → List ℕ) (w : ℕ) (even : (x : T) → ok x ≡ true → length (g x) ≡ w) where
  pub all_even : (xs : List T) → all ok xs ≡ true → all (wide w) (map g xs) ≡ true
  all_even [] h = refl
  all_even (x ∷ xs) h =
      and_both (eq-eqb (length (g x)) w (even x (and_left (ok x) (all ok xs) h))) (all_even xs (and_right (ok x) (all ok xs) h))

  pub length_put : (xs : List T) → all ok xs ≡ true → length (joined g xs) ≡ length xs * w
  unfolding joined
  length_put xs h = length_joined w (map g xs) (all_even xs h) ∙ ap (λ (n : ℕ). n * w) (length-map xs g)

  module _ (out room n : ℕ) (s s' : List ℕ) (x : T) (has : ok x ≡ true) (fits : out + room * w ≤ length s)
      (is : s' ≡ cond (ltb n room) (splice s (out + n * w) (g x)) s) where
    more : (done : List T) → all ok done ≡ true → length done ≡ n → n < room → joined g (take room (done ++ (x ∷ []))) ≡ joined g (take room done) ++ g x
    more done f c l =
        let m = length-append done (x ∷ []) in
        let a : take room (done ++ (x ∷ [])) ≡ done ++ (x ∷ []) = take_all room (done ++ (x ∷ [])) (omega arith) in
        let b : take room done ≡ done = take_all room done (omega arith) in
        rw (a, b, joined_append g done (x ∷ []), joined_one g x)

    wrote_room : n < room → (s₀ : List ℕ) (done : List T) → length s₀ ≡ length s → length done ≡ n → all ok done ≡ true
        → s ≡ splice s₀ out (joined g (take room done)) → s' ≡ splice s₀ out (joined g (take room (done ++ (x ∷ []))))
    wrote_room l s₀ done ls c f e =
        let b : take room done ≡ done = take_all room done (omega arith) in
        let long : length (joined g (take room done)) ≡ n * w = rw b (length_put done f ∙ ap (λ (i : ℕ). i * w) c) in
        let inside = record_inside n room w l in
        is
        ∙ rw (lt-ltb n room l)
        (splice_then s s₀ out (joined g (take room done)) (out + n * w) (g x) e (omega arith) (omega arith)
        ∙ ap (splice s₀ out) (sym (more done f c l)))

    wrote_full : room ≤ n → (s₀ : List ℕ) (done : List T) → length done ≡ n
        → s ≡ splice s₀ out (joined g (take room done)) → s' ≡ splice s₀ out (joined g (take room (done ++ (x ∷ []))))
    wrote_full l s₀ done c e =
        let h : room ≤ length done = omega arith in
        is ∙ rw (le-ltb n room l, take-append-le room done) e

    wrote_one : (s₀ : List ℕ) (done : List T) → length s₀ ≡ length s → length done ≡ n → all ok done ≡ true
        → s ≡ splice s₀ out (joined g (take room done)) → s' ≡ splice s₀ out (joined g (take room (done ++ (x ∷ []))))
    wrote_one s₀ done ls c f e =
        ⊎_elim (λ (l : n < room). wrote_room l s₀ done ls c f e) (λ (l : room ≤ n). wrote_full l s₀ done c e) (less? n room)

    long_one : length s' ≡ length s
    long_one =
        ⊎_elim
        (λ (l : n < room). let inside = record_inside n room w l in
        ap length is ∙ rw (lt-ltb n room l) (length_splice s (out + n * w) (g x) (omega (arith, even x has))))
        (λ (l : room ≤ n). ap length is ∙ rw (le-ltb n room l))
        (less? n room)

    pub put_one : {v p : ℕ} {k k' : List ℕ} → known v p k' ≡ known v p k → PutBy ok g (λ ks. ks ≡ x ∷ []) v p out room n s k s' k' (n + 1)
    put_one kept =
        record {
          put = x ∷ [];
          fit = and_both has refl;
          count = refl;
          long = long_one;
          writes = written_one g out room n w s s' x (even x has) is;
          front = ⊎_elim
              (λ (l : n < room). let inside = record_inside n room w l in
              ap (take out) is ∙ rw (lt-ltb n room l) (take_before s (out + n * w) (g x) (omega (arith, even x has)) out (omega arith)))
              (λ (l : room ≤ n). ap (take out) is ∙ rw (le-ltb n room l))
              (less? n room);
          kept = kept;
          are = λ ks e. sym e;
        }

  -- what is written behind other such things, and all these, are one piece
  pub written_behind : (out room : ℕ) (xs done : List T) (s s₀ : List ℕ) → all ok xs ≡ true → all ok done ≡ true → out + room * w ≤ length s → length s₀ ≡ length s
      → s ≡ splice s₀ out (joined g (take room done)) → written g out room (length done) xs s ≡ splice s₀ out (joined g (take room (done ++ xs)))
  unfolding written
  written_behind out room [] done s s₀ h f fits l e = rw (append-nil done) e
  written_behind out room (x ∷ xs) done s s₀ h f fits l e =
      let n = length done in
      let has = and_left (ok x) (all ok xs) h in
      let s' = cond (ltb n room) (splice s (out + n * length (g x)) (g x)) s in
      let is : s' ≡ cond (ltb n room) (splice s (out + n * w) (g x)) s = ap (λ (i : ℕ). cond (ltb n room) (splice s (out + n * i) (g x)) s) (even x has) in
      let long = long_one out room n s s' x has fits is in
      let one = wrote_one out room n s s' x has fits is s₀ done l refl f e in
      let q = written_behind out room xs (done ++ (x ∷ [])) s' s₀ (and_right (ok x) (all ok xs) h) (tested_append ok done (x ∷ []) f (and_both has refl)) (omega (arith, long)) (l ∙ sym long) one in
      let m : length (done ++ (x ∷ [])) ≡ n + 1 = length-append done (x ∷ []) in
      rw (m, append_assoc done (x ∷ []) xs) at q

  pub written_first : (out room : ℕ) (xs : List T) (s : List ℕ) → all ok xs ≡ true → out + room * w ≤ length s → written g out room 0 xs s ≡ splice s out (joined g (take room xs))
  written_first out room xs s h fits = written_behind out room xs [] s s h refl fits refl (sym (ap (splice s out) (joined_take g room) ∙ splice_nil s out))

-- ---- a loop

-- of the things ks some are put, and those that `Left` tells are left
pub record Rest {T : Type 0} (Left : List T → Type 0) (put ks : List T) : Type 0 where
  pub more : List T
  pub has : Left more
  pub all : put ++ more ≡ ks

pub record GoingBy {T : Type 0} (ok : T → Bool) (g : T → List ℕ) (Has Left : List T → Type 0) (v p out room n : ℕ) (s k s' k' : List ℕ) (m : ℕ) : Type 0 where
  pub so : PutBy ok g Nothing v p out room n s k s' k' m
  pub left : (ks : List T) → Has ks → Rest Left so.put ks

abbrev pub Going : (Key → List ℕ) → (List Key → Type 0) → (List Key → Type 0) → (v p out room n : ℕ) → (s k s' k' : List ℕ) → ℕ → Type 0
Going = GoingBy has_slot

-- things in two parts
pub record Two {T : Type 0} (A B : List T → Type 0) (ks : List T) : Type 0 where
  pub first : List T
  pub second : List T
  pub one : A first
  pub other : B second
  pub is : ks ≡ first ++ second

module _ {T : Type 0} {ok : T → Bool} {g : T → List ℕ} {Has : List T → Type 0} {v p out room n : ℕ} {s k : List ℕ} where
  pub going_from : {Left : List T → Type 0} → ((ks : List T) → Has ks → Left ks) → GoingBy ok g Has Left v p out room n s k s k n
  unfolding put_none
  going_from f = record { so = put_none refl (λ ks z. absurd z); left = λ ks h. record { more = ks; has = f ks h; all = refl } }

  pub going_start : GoingBy ok g Has Has v p out room n s k s k n
  going_start = going_from (λ ks h. h)

  module _ {Left : List T → Type 0} {s' k' : List ℕ} {m : ℕ} (l : GoingBy ok g Has Left v p out room n s k s' k' m) where
    -- nothing is left
    pub going_end : ((ks : List T) → Left ks → ks ≡ []) → PutBy ok g Has v p out room n s k s' k' m
    going_end h =
        put_as l.so
        (λ ks a. let r = l.left ks a in
        sym (append-nil l.so.put) ∙ ap (λ (x : List T). l.so.put ++ x) (sym (h r.more r.has)) ∙ r.all)

    -- the first of what is left is put
    pub going_on : {Item Left' : List T → Type 0} {s'' k'' : List ℕ} {r : ℕ} → PutBy ok g Item v p out room m s' k' s'' k'' r
        → ((ks : List T) → Left ks → Two Item Left' ks) → GoingBy ok g Has Left' v p out room n s k s'' k'' r
    unfolding put_then
    going_on i split =
        record {
          so = put_then l.so i;
          left = λ ks a.
              let r = l.left ks a in
              let t = split r.more r.has in
              record {
                more = t.second;
                has = t.other;
                all =
                    append_assoc l.so.put i.put t.second
                    ∙ ap (λ (x : List T). l.so.put ++ x) (ap (λ (x : List T). x ++ t.second) (i.are t.first t.one) ∙ sym t.is)
                    ∙ r.all;
              };
        }
