-- From the filled level to the store of the book with the entry put. Assumes nothing.
use Prim.Native.Nat.{ℕ, suc, ◌+◌, ◌*◌, ◌/◌, ◌^◌, ◌≤◌, ◌<◌}
use mathlib.Core.Path.{◌≡◌, refl, sym, ap, ap₂, subst, ◌∙◌}
use mathlib.Core.Bool.{true}
use mathlib.Core.List.{List, [], ◌∷◌, ◌++◌}
use native.Mathlib.Omega.{arith}
use lib.ListN.{length, take, drop, replicate, length-append}
use Rattle.buffer.specs.Splice.{splice}
use Rattle.buffer.specs.Numbers.{bytes_of}
use Rattle.buffer.proofs.Splice.{length_splice, take_before, drop_after}
use Rattle.buffer.proofs.Digits.{length_bytes_of}
use Rattle.rows.specs.Entry.{Entry}
use Rattle.rows.proofs.Sorted.{count_all}
use Rattle.trie_theory.specs.Encode.{encode}
use Rattle.book.specs.Front.{front_room, held_at, entry_room, need}
use Rattle.book.specs.Digits.{digit, quotient, small}
use Rattle.book.specs.Book.{Book, Sound, front, held, put, formed}
use Rattle.book.specs.Tries.{tries, level_trie}
use Rattle.book.specs.FromTries.{entries_in}
use Rattle.book.specs.Overflow.{from_highest}
use Rattle.book.specs.Image.{padded, image, Holds}
use Rattle.book.proofs.Keys.{fits_row_lem}
use Rattle.book.proofs.Image.{level_few, image_fits, length_image}
use Rattle.book.proofs.OverTries.{kept_count}
use Rattle.book.proofs.Overflow.{overflows}
use Rattle.book.proofs.Additions.{not_all_full}
use Rattle.book.proofs.Writes.{as_held, write_within, add_level}
use Rattle.book.proofs.Good.{tries_good}
use Rattle.store.proofs.Places.{region_within}
use Rattle.store_overflow.specs.Overflow.{Overflowed}
use Rattle.std.specs.Prelude.{Some, None}
use Rattle.store_overflow.specs.Steps.{FirstEmpty, LevelFilled}

-- what level j and all below it become
abbrev bytes_for : ℕ → ℕ → ℕ → List Entry → List ℕ
bytes_for m τ j xs = let n = entry_room * m * 2 ^ j in replicate n 0 ++ padded n (encode (level_trie τ xs))

-- ---- in a store of ours

module _ (b : Book) (sound : Sound b) (e : Entry) (f : formed e ≡ true) (j : ℕ) (low : j < b.L) (h : length (small b.M b.entries) + 1 ≡ b.M)
    (empty : digit j (quotient b.M b.entries) ≡ 0) (others : (i : ℕ) → i < j → digit i (quotient b.M b.entries) ≡ 1) where
  -- the level has room for what is gathered and the new one
  few_entries : length (entries_in j (tries b)) + 1 ≤ b.M * 2 ^ j
  few_entries =
      let es = from_highest b.M j b.entries in
      let n : length (entries_in j (tries b)) ≡ length es = sym (count_all (entries_in j (tries b)))
      ∙ kept_count b sound j (λ _. true) ∙ count_all es in
      let k : length (es ++ (e ∷ [])) ≤ b.M * 2 ^ j =
      subst (λ (l : List Entry). length l ≤ b.M * 2 ^ j) (overflows b.M j b.entries e h empty others).into
      (level_few b.M j (b.entries ++ (e ∷ []))) in
      omega (arith, length-append es (e ∷ []))

  abbrev bytes : List ℕ
  bytes = bytes_for b.M b.τ j (entries_in j (tries b) ++ (e ∷ []))

  -- .. and the held number makes it the store of the book with e put
  book_put : (store : List ℕ) → Holds store (front b) (tries b) → front_room + length bytes ≤ need b.M b.L
      → splice (splice store front_room bytes) held_at (bytes_of 4 (held b + 1)) ≡ splice store 0 (image (put e b))
  unfolding image
  book_put store holds fits =
      let H = bytes_of 4 (held b + 1) in
      let lh = length_bytes_of 4 (held b + 1) in
      let li = length_image b sound in
      let lent = holds.enough in
      let own : store ≡ splice store 0 (image b) = as_held holds (image_fits b sound) in
      let first : splice store front_room bytes ≡ splice store 0 (splice (image b) front_room bytes) =
      write_within store (image b) store front_room bytes own (omega arith) (omega arith) in
      let ls : length (splice (image b) front_room bytes) ≡ length (image b) = length_splice (image b) front_room bytes (omega arith) in
      write_within store (splice (image b) front_room bytes) (splice store front_room bytes) held_at H first (omega arith) (omega arith)
      ∙ ap (splice store 0) (add_level b e sound f j low h empty others (entries_in j (tries b) ++ (e ∷ [])) (λ p. refl))

-- ---- in any

quotient_is : (m held : ℕ) (b : Book) → m ≡ b.M → held ≡ Rattle.book.specs.Book.held b → held / m ≡ quotient b.M b.entries
unfolding quotient
quotient_is m held b em eh = ap₂ (λ (x y : ℕ). x / y) eh em

module _ (m l τ held : ℕ) (e : Entry) (store : List ℕ) where
  fits_book : (b : Book) → m ≡ b.M → l ≡ b.L → {x y : List ℕ} → x ≡ y → front_room + length x ≤ need m l → front_room + length y ≤ need b.M b.L
  fits_book b em el e h = omega (arith, h, ap₂ need em el, ap length e)

  pub overflowed : {after : List ℕ} (j : ℕ) → FirstEmpty l (held / m) (Some j) → need m l ≤ length store → LevelFilled m l τ j e store after
      → Overflowed m l τ held e store after
  overflowed {after} j d lent a =
      let low = d.0 in
      let within : front_room + length a.bytes ≤ need m l = omega (arith, region_within m l (suc j) low, a.long) in
      let fit : front_room + length a.bytes ≤ length store = omega arith in
      record {
        size = ap length a.is ∙ length_splice store front_room a.bytes fit;
        front = ap (take front_room) a.is ∙ take_before store front_room a.bytes fit front_room (omega arith);
        beyond = ap (drop (need m l)) a.is ∙ drop_after store front_room a.bytes fit (need m l) within;
        ours = λ b sound f holds em el et eh h room.
            let q = quotient_is m held b em eh in
            let empty = subst (λ (n : ℕ). digit j n ≡ 0) q d.2 in
            let others : (i : ℕ) → i < j → digit i (quotient b.M b.entries) ≡ 1 = λ i k. subst (λ (n : ℕ). digit i n ≡ 1) q (d.1 i k) in
            let few : length (entries_in j (tries b)) + 1 ≤ m * 2 ^ j =
            subst (λ (n : ℕ). length (entries_in j (tries b)) + 1 ≤ n * 2 ^ j) (sym em) (few_entries b sound e f j (omega (arith, low, el)) h empty others) in
            let are : a.bytes ≡ bytes_for b.M b.τ j (entries_in j (tries b) ++ (e ∷ [])) =
            a.entries (front b) (tries b) (sym em) (sym el) (tries_good b sound) holds (fits_row_lem e f) few
            ∙ ap₂ (λ (x y : ℕ). bytes_for x y j (entries_in j (tries b) ++ (e ∷ []))) em et in
            ap (λ (x : List ℕ). splice x held_at (bytes_of 4 (Rattle.book.specs.Book.held b + 1))) (a.is ∙ ap (splice store front_room) are)
            ∙ book_put b sound e f j (omega (arith, low, el)) h empty others store holds (fits_book b em el are within);
      }

  -- a store of ours has an empty level
  pub unchanged : FirstEmpty l (held / m) None → Overflowed m l τ held e store store
  unchanged d =
      record {
        size = refl;
        front = refl;
        beyond = refl;
        ours = λ b sound f holds em el et eh h room.
            absurd (not_all_full b h room (λ i k. subst (λ (n : ℕ). digit i n ≡ 1) (quotient_is m held b em eh)
            (d i (omega (arith, el)))));
      }
