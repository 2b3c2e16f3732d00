-- The keys of a good trie are those of its entries, whose rows have room.
use Prim.Native.Nat.{ℕ, zero, suc, ◌-◌, ◌≤◌}
use mathlib.Core.Path.{◌≡◌, refl, sym, ap, ap₂, ◌∙◌}
use mathlib.Core.Bool.{true, false, ◌&&◌, false≢true}
use mathlib.Core.List.{List, [], ◌∷◌, ◌++◌, map}
use native.Mathlib.Omega.{arith}
use lib.ListN.{length, take}
use lib.Dec.{ltb}
use lib.Seq.{length-take-le}
use borrow.Author.Tests.{eqb-true, eq-eqb, le-leb, lt-ltb}
use Rattle.buffer.specs.Lists.{All, nil, cons, all}
use Rattle.buffer.specs.Numbers.{bytes_of, number}
use Rattle.buffer.proofs.Tests.{and_left, and_right, and_both}
use Rattle.buffer.proofs.Digits.{bytes_of_number}
use Rattle.matcher.specs.Bytes.{path_limit}
use Rattle.rows.specs.Sizes.{value_size, reference_size}
use Rattle.rows.specs.Entry.{fits_row}
use Rattle.trie_theory.specs.Forest.{Strings, Key, Forest, keys}
use Rattle.trie_theory.specs.Strings.{at}
use Rattle.trie_theory.specs.Entries as Dimensions
use Rattle.trie_theory.specs.Entries.{complete, is_value, is_path, dims}
use Rattle.entries.specs.Keys.{entry_key}
use Rattle.book.specs.FromTries.{key_entry, entries_of}
use Rattle.book.proofs.Keys.{entry_valued}

-- a path, its end byte, and nothing behind
ended : (p : List ℕ) (k : ℕ) → length p ≡ suc k → is_path p ≡ true → (take k p ++ (0 ∷ []) ≡ p) × (all (ltb 0) (take k p) ≡ true)
unfolding is_path
ended [] k l h = absurd (false≢true h)
ended (zero ∷ []) zero l h = (refl, refl)
ended (zero ∷ []) (suc k) l h = absurd (omega arith)
ended (zero ∷ b ∷ s) k l h = absurd (false≢true h)
ended (suc a ∷ []) k l h = absurd (false≢true h)
ended (suc a ∷ b ∷ s) zero l h = absurd (omega arith)
ended (suc a ∷ b ∷ s) (suc k) l h =
    let r = ended (b ∷ s) k (omega arith) h in
    (ap (◌∷◌ (suc a)) r.0, and_both (lt-ltb 0 (suc a) (omega arith)) r.1)

some_path : (p : List ℕ) → is_path p ≡ true → 1 ≤ length p
unfolding is_path
some_path [] h = absurd (false≢true h)
some_path (b ∷ s) h = omega arith

-- a value and a path
two : (ss : Strings) → complete dims ss ≡ true → (is_value (at 0 ss) ≡ true) × (is_path (at 1 ss) ≡ true) × (ss ≡ at 0 ss ∷ at 1 ss ∷ [])
unfolding complete dims
two [] h = absurd (false≢true h)
two (v ∷ []) h = absurd (false≢true (and_right (is_value v) false h))
two (v ∷ p ∷ []) h = (and_left (is_value v) (is_path p && true) h, and_left (is_path p) true (and_right (is_value v) (is_path p && true) h), refl)
two (v ∷ p ∷ q ∷ ss) h = absurd (false≢true (and_right (is_path p) false (and_right (is_value v) (is_path p && false) h)))

module _ (x : Key) (e : Dimensions.OfEntry x) where
  path_parts : let p = at 1 x.strings in (take (length p - 1) p ++ (0 ∷ []) ≡ p) × (all (ltb 0) (take (length p - 1) p) ≡ true)
  path_parts =
      let p = at 1 x.strings in
      let h = (two x.strings e.whole).1 in
      let l : length p ≡ suc (length p - 1) = omega (arith, some_path p h) in
      ended p (length p - 1) l h

  value_is : bytes_of value_size (number (at 0 x.strings)) ≡ at 0 x.strings
  unfolding is_value
  value_is =
      let v = at 0 x.strings in
      let l : length v ≡ value_size = eqb-true (length v) value_size (two x.strings e.whole).0 in
      rw l at (bytes_of_number v (entry_valued x e))

  -- an entry gives its key back
  pub entry_back : entry_key (key_entry x) ≡ x
  unfolding entry_key key_entry
  entry_back =
      let s : bytes_of value_size (number (at 0 x.strings)) ∷ (take (length (at 1 x.strings) - 1) (at 1 x.strings) ++ (0 ∷ [])) ∷ [] ≡ x.strings =
      ap₂ (λ (v p : List ℕ). v ∷ p ∷ []) value_is path_parts.0 ∙ sym (two x.strings e.whole).2 in
      λ i. record { strings = s i; reference = x.reference }

  pub entry_fits : fits_row (key_entry x) ≡ true
  unfolding fits_row key_entry
  entry_fits =
      let p = at 1 x.strings in
      let l : length (take (length p - 1) p) ≤ path_limit = omega (arith, length-take-le (length p - 1) p (omega arith), e.short) in
      and_both (le-leb (length (take (length p - 1) p)) path_limit l) (and_both path_parts.1 (eq-eqb (length x.reference) reference_size e.named))

back_all : {xs : List Key} → All Dimensions.OfEntry xs → (xs ≡ map entry_key (map key_entry xs)) × (all fits_row (map key_entry xs) ≡ true)
back_all nil = (refl, refl)
back_all (cons {x = x} h a) =
    let r = back_all a in
    (ap₂ ◌∷◌ (sym (entry_back x h)) r.0, and_both (entry_fits x h) r.1)

-- OF A TRIE of keys of entries
pub keys_of_entries : (t : Forest) → All Dimensions.OfEntry (keys [] t) → (keys [] t ≡ map entry_key (entries_of t)) × (all fits_row (entries_of t) ≡ true)
unfolding entries_of
keys_of_entries t a = back_all a
