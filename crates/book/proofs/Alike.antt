-- Books that one store holds are answered alike, and their stores stay alike: a call that goes by the store's bytes can keep its promise for all
-- of them at once.
use Prim.Native.Nat.{ℕ, zero, suc, ◌+◌, ◌*◌, ◌/◌, ◌%◌, ◌^◌, ◌<◌}
use mathlib.Core.Path.{◌≡◌, refl, sym, ap, ap₂, ◌∙◌, subst}
use mathlib.Core.Logic.{◌⊎◌, inl, inr, ⊎_elim}
use mathlib.Core.Bool.{Bool, true, false, cond}
use mathlib.Core.List.{List, [], ◌∷◌, ◌++◌, map}
use native.Mathlib.Omega.{arith}
use native.Mathlib.Nat.{mod-lt}
use lib.ListN.{length, length-append}
use lib.Dec.{eqb, ltb}
use borrow.Author.Tests.{ltb-true, ltb-false, eqb-true, eqb-false}
use Rattle.buffer.specs.Lists.{any, sum, flat, count}
use Rattle.buffer.specs.Splice.{splice}
use Rattle.buffer.specs.Numbers.{bytes_of}
use Rattle.rows.specs.Sizes.{row_size, record_size}
use Rattle.rows.specs.Entry.{Entry, row}
use Rattle.rows.specs.Order.{entry_order}
use Rattle.rows.specs.Sorted.{sorted}
use Rattle.trie_theory.specs.Forest.{Forest}
use Rattle.trie_theory.specs.Dimensions.{root}
use Rattle.trie_theory.specs.SmallTrie.{added}
use Rattle.trie_theory.specs.Encode.{encode}
use Rattle.trie_theory.specs.Lookup.{member}
use Rattle.trie_theory.specs.Search.{nodes_entered}
use Rattle.entries.specs.Keys.{entry_key}
use Rattle.entries.specs.Query.{Query, reaches}
use Rattle.book.specs.Front.{Front, front_room, entry_room, front_bytes, held_at}
use Rattle.book.specs.Digits.{digit, quotient, small}
use Rattle.book.specs.Book.{Book, Sound, held, front, put, has, formed}
use Rattle.book.specs.Tries.{every, level_trie, tries}
use Rattle.book.specs.Searching.{nodes_of}
use Rattle.book.specs.Records.{record_of}
use Rattle.book.specs.FromTries.{entries_of, found_of, entries_in, found_in, has_in, search_tries, read_tries}
use Rattle.book.specs.Replies.{reply, result, add_number, search_number, read_number}
use Rattle.book.specs.Calls.{add, search, read_level, typed}
use Rattle.book.specs.Step.{unless, admit, list, step}
use Rattle.book.specs.Image.{padded, store_of, image}
use Rattle.book.proofs.Front.{within}
use Rattle.book.proofs.Overflow.{small_length}
use Rattle.book.proofs.Numbers.{acceptable}
use Rattle.book.proofs.Book.{put_sound, accepted_formed}
use Rattle.book.proofs.Regions.{small_at, regions_same}
use Rattle.book.proofs.Additions.{not_all_full}
use Rattle.book.proofs.Writes.{zeros, add_small, add_level}
use Rattle.book.proofs.OverTries.{looked_up}
use Rattle.book.proofs.FromTries.{search_tries_lem, read_tries_lem}
use Rattle.book.proofs.Unique.{Same, same_every}

-- ---- the first empty level

pub record FirstEmpty (l n : ℕ) : Type 0 where
  pub at : ℕ
  pub below : at < l
  pub empty : digit at n ≡ 0
  pub others : (i : ℕ) → i < at → digit i n ≡ 1

one_digit : (i n : ℕ) → (digit i n ≡ 0 → ⊥) → digit i n ≡ 1
unfolding digit
one_digit i n h = let l : n / 2 ^ i % 2 < 2 = mod-lt (n / 2 ^ i) (omega arith) in omega (arith, h)

-- there is one below l, or all digits below l are 1
pub first_empty : (l n : ℕ) → FirstEmpty l n ⊎ ((i : ℕ) → i < l → digit i n ≡ 1)
first_empty zero n = inr (λ i h. absurd (omega arith))
first_empty (suc l) n = ⊎_elim (λ (e : FirstEmpty l n). inl (record { at = e.at; below = let h = e.below in omega arith; empty = e.empty; others = e.others })) (λ (o : (i : ℕ) → i < l → digit i n ≡ 1). go o (eqb (digit l n) 0) refl) (first_empty l n)
  where
    go : ((i : ℕ) → i < l → digit i n ≡ 1) → (w : Bool) → eqb (digit l n) 0 ≡ w → FirstEmpty (suc l) n ⊎ ((i : ℕ) → i < suc l → digit i n ≡ 1)
    go o true e = inl (record { at = l; below = omega arith; empty = eqb-true (digit l n) 0 e; others = o })
    go o false e = inr (λ i h. last i (ltb i l) refl h)
      where
        last : (i : ℕ) (w : Bool) → ltb i l ≡ w → i < suc l → digit i n ≡ 1
        last i true q h = o i (ltb-true i l q)
        last i false q h = let k = ltb-false i l q in subst (λ (x : ℕ). digit x n ≡ 1) (let z : l ≡ i = omega arith in z) (one_digit l n (eqb-false (digit l n) 0 e))

-- ---- what is the same

module _ (b b' : Book) (same : Same b b') where
  held_same : held b ≡ held b'
  held_same = ap (λ (f : Front). f.held) same.front

  m_same : b.M ≡ b'.M
  m_same = ap (λ (f : Front). f.M) same.front

  l_same : b.L ≡ b'.L
  l_same = ap (λ (f : Front). f.L) same.front

  t_same : b.τ ≡ b'.τ
  t_same = ap (λ (f : Front). f.τ) same.front

  all_same : every b.L (tries b) ≡ every b'.L (tries b')
  all_same = same_every same b.L (omega arith) ∙ ap (λ (l : ℕ). every l (tries b')) l_same

  pub image_same : image b ≡ image b'
  unfolding image store_of
  image_same =
      ap (λ (r : List ℕ). padded front_room (front_bytes (front b)) ++ r) (regions_same b.M b.L (tries b') (tries b) same.small same.level)
      ∙ ap (λ (f : Front). store_of f (tries b')) same.front

  found_same : (q : Query) (answer : List ℕ) → search_tries q b.L (tries b) answer ≡ search_tries q b'.L (tries b') answer
  unfolding search_tries found_in nodes_of
  found_same q answer =
      ap (λ (fs : List Forest). list row_size (map row (sorted entry_order (flat (map (found_of q) fs)))) (sum (nodes_entered (reaches q) root []) fs) answer) all_same

  read_same : (i : ℕ) (answer : List ℕ) → read_tries i b.L (tries b) answer ≡ read_tries i b'.L (tries b') answer
  unfolding read_tries
  read_same i answer =
      go (ltb i b.L) refl
      ∙ ap (λ (l : ℕ). list record_size (cond (ltb i l) (map (record_of ((tries b').level i)) (sorted entry_order (entries_of ((tries b').level i)))) []) 0 answer) l_same
    where
      go : (w : Bool) → ltb i b.L ≡ w
          → list record_size (cond (ltb i b.L) (map (record_of ((tries b).level i)) (sorted entry_order (entries_of ((tries b).level i)))) []) 0 answer
          ≡ list record_size (cond (ltb i b.L) (map (record_of ((tries b').level i)) (sorted entry_order (entries_of ((tries b').level i)))) []) 0 answer
      go true e = ap (λ (f : Forest). list record_size (cond (ltb i b.L) (map (record_of f) (sorted entry_order (entries_of f))) []) 0 answer) (same.level i (ltb-true i b.L e))
      go false e = rw e

  has_same : Sound b → Sound b' → (e : Entry) → has b.entries e ≡ has b'.entries e
  unfolding has_in
  has_same s s' e = sym (looked_up b s e) ∙ ap (any (λ f. member root f (entry_key e))) all_same ∙ looked_up b' s' e

  rounds_same : quotient b.M b.entries ≡ quotient b'.M b'.entries
  unfolding quotient
  rounds_same = ap₂ (λ (n m : ℕ). n / m) held_same m_same

  few_same : length (small b.M b.entries) ≡ length (small b'.M b'.entries)
  few_same = small_length b.M b.entries ∙ ap₂ (λ (n m : ℕ). n % m) held_same m_same ∙ sym (small_length b'.M b'.entries)

-- ---- one entry more

module _ (b b' : Book) (same : Same b b') (e : Entry) (s : Sound b) (s' : Sound b') (p : Sound (put e b)) (p' : Sound (put e b')) (f : formed e ≡ true) where
  stays_same : length (small b.M b.entries) + 1 < b.M → image (put e b) ≡ image (put e b')
  stays_same h =
      let h' : length (small b'.M b'.entries) + 1 < b'.M = omega (arith, few_same b b' same, m_same b b' same) in
      let now : List ℕ → ℕ → Forest → ℕ → List ℕ = λ i m t n. splice (splice i small_at (padded (entry_room * m) (encode (added root t (entry_key e))))) held_at (bytes_of 4 (n + 1)) in
      sym (add_small b e s p h)
      ∙ (λ i. now (image_same b b' same i) (m_same b b' same i) (same.small i) (held_same b b' same i))
      ∙ add_small b' e s' p' h'

  overflows_same : length (small b.M b.entries) + 1 ≡ b.M → FirstEmpty b.L (quotient b.M b.entries) → image (put e b) ≡ image (put e b')
  overflows_same h z =
      let j = z.at in
      let xs = entries_in j (tries b) ++ (e ∷ []) in
      let h' : length (small b'.M b'.entries) + 1 ≡ b'.M = omega (arith, few_same b b' same, m_same b b' same) in
      let l' : j < b'.L = subst (λ (l : ℕ). j < l) (l_same b b' same) z.below in
      let r = rounds_same b b' same in
      let now : List ℕ → ℕ → ℕ → ℕ → List ℕ = λ i m t n.
      splice (splice i small_at (zeros (entry_room * m * 2 ^ j) ++ padded (entry_room * m * 2 ^ j) (encode (level_trie t xs)))) held_at (bytes_of 4 (n + 1)) in
      let gathered : entries_in j (tries b) ≡ entries_in j (tries b') = unfold entries_in in ap (λ (fs : List Forest). flat (map entries_of fs)) (same_every same j (let k = z.below in omega arith)) in
      sym (add_level b e s f j z.below h z.empty z.others xs (λ t. refl))
      ∙ (λ i. now (image_same b b' same i) (m_same b b' same i) (t_same b b' same i) (held_same b b' same i))
      ∙ add_level b' e s' f j l' h' (ap (digit j) (sym r) ∙ z.empty) (λ i k. ap (digit i) (sym r) ∙ z.others i k) xs (λ t. ap (λ (l : List Entry). count t (l ++ (e ∷ []))) gathered)

  pub put_same : image (put e b) ≡ image (put e b')
  put_same = go (ltb (length (small b.M b.entries) + 1) b.M) refl
    where
      few : length (small b.M b.entries) < b.M
      few = subst (λ (k : ℕ). k < b.M) (sym (small_length b.M b.entries)) (mod-lt (held b) (within b.M b.L b.τ s.limits).m_low)

      go : (w : Bool) → ltb (length (small b.M b.entries) + 1) b.M ≡ w → image (put e b) ≡ image (put e b')
      go true q = stays_same (ltb-true (length (small b.M b.entries) + 1) b.M q)
      go false q =
          let k = ltb-false (length (small b.M b.entries) + 1) b.M q in
          let h : length (small b.M b.entries) + 1 ≡ b.M = omega (arith, few) in
          ⊎_elim (λ (z : FirstEmpty b.L (quotient b.M b.entries)). overflows_same h z)
          (λ (o : (i : ℕ) → i < b.L → digit i (quotient b.M b.entries) ≡ 1). absurd (not_all_full b h (omega (arith, p.room, length-append b.entries (e ∷ []))) o))
          (first_empty b.L (quotient b.M b.entries))

-- ---- ONE CALL, ALIKE

module _ (b b' : Book) (same : Same b b') (s : Sound b) (s' : Sound b') where
  pub search_alike : (n : ℕ) (q : Query) (answer : List ℕ) → (step b (search n q answer)).result ≡ (step b' (search n q answer)).result
  search_alike n q answer = go (search_number n (front b) q) refl
    where
      number : search_number n (front b') q ≡ search_number n (front b) q
      number = ap (λ (f : Front). search_number n f q) (sym same.front)

      refused : (k : ℕ) → search_number n (front b) q ≡ suc k → (step b (search n q answer)).result ≡ (step b' (search n q answer)).result
      refused k e = unfold step in rw (number, e)

      go : (k : ℕ) → search_number n (front b) q ≡ k → (step b (search n q answer)).result ≡ (step b' (search n q answer)).result
      go zero e = search_tries_lem b s n q answer e ∙ found_same b b' same q answer ∙ sym (search_tries_lem b' s' n q answer (number ∙ e))
      go (suc k) e = refused k e

  pub read_alike : (n i : ℕ) (answer : List ℕ) → (step b (read_level n i answer)).result ≡ (step b' (read_level n i answer)).result
  read_alike n i answer = go (read_number n (front b)) refl
    where
      number : read_number n (front b') ≡ read_number n (front b)
      number = ap (read_number n) (sym same.front)

      refused : (k : ℕ) → read_number n (front b) ≡ suc k → (step b (read_level n i answer)).result ≡ (step b' (read_level n i answer)).result
      refused k e = unfold step in rw (number, e)

      go : (k : ℕ) → read_number n (front b) ≡ k → (step b (read_level n i answer)).result ≡ (step b' (read_level n i answer)).result
      go zero e = read_tries_lem b s n i answer e ∙ read_same b b' same i answer ∙ sym (read_tries_lem b' s' n i answer (number ∙ e))
      go (suc k) e = refused k e

  pub add_alike : (n : ℕ) (e : Entry) → typed (add n e) ≡ true
      → ((step b (add n e)).result ≡ (step b' (add n e)).result) × (image (step b (add n e)).book ≡ image (step b' (add n e)).book)
  unfolding step
  add_alike n e t =
      let number : add_number n (front b) e ≡ add_number n (front b') e = ap (λ (f : Front). add_number n f e) same.front in
      let there = has_same b b' same s s' e in
      let g = go (add_number n (front b) e) refl (has b.entries e) refl in (
        g.0 ∙ ap₂ (λ (k : ℕ) (w : Bool). (unless k [] b' (admit w e b')).result) number there,
        g.1 ∙ ap₂ (λ (k : ℕ) (w : Bool). image (unless k [] b' (admit w e b')).book) number there,
      )
    where
      sound_put : (d : Book) → Sound d → add_number n (front d) e ≡ 0 → has d.entries e ≡ false → Sound (put e d)
      sound_put d sd z h = put_sound n d e sd (acceptable n (front d) e z) t h

      go : (k : ℕ) → add_number n (front b) e ≡ k → (w : Bool) → has b.entries e ≡ w
          → ((unless k [] b (admit w e b)).result ≡ (unless k [] b' (admit w e b')).result) × (image (unless k [] b (admit w e b)).book ≡ image (unless k [] b' (admit w e b')).book)
      go zero z true h = (ap (λ (n : ℕ). result (reply 100 n 0) []) (held_same b b' same), image_same b b' same)
      go zero z false h =
          let z' : add_number n (front b') e ≡ 0 = ap (λ (f : Front). add_number n f e) (sym same.front) ∙ z in
          let h' : has b'.entries e ≡ false = sym (has_same b b' same s s' e) ∙ h in
          (ap (λ (n : ℕ). result (reply 0 (n + 1) 0) []) (held_same b b' same), put_same b b' same e s s' (sound_put b s z h) (sound_put b' s' z' h') (accepted_formed n b e z t))
      go (suc k) z w h = (refl, image_same b b' same)
