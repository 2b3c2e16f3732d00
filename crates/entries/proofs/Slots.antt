-- A slot from its parts, the writes that make it, and its key. Assumes nothing.
use mathlib.Core.Path.{◌≡◌, refl, ap, ◌∙◌}
use mathlib.Core.Bool.{true}
use Prim.Native.Nat.{ℕ, zero, suc, ◌+◌, ◌-◌, ◌*◌, ◌≤◌}
use mathlib.Core.List.{List, [], ◌∷◌, ◌++◌, append_assoc, map}
use native.Mathlib.Omega.{arith}
use borrow.Author.Tests.{le-leb}
use lib.ListN.{length, take, drop, set, get_or, replicate, length-append, length-replicate, replicate-append-replicate}
use lib.Seq.{drop_at, get_or_at, take-append-add}
use Rattle.buffer.specs.Lists.{all, flat, padded}
use Rattle.buffer.specs.Splice.{splice, region}
use Rattle.buffer.specs.Numbers.{bytes_of}
use Rattle.buffer.proofs.Splice.{splice_then, splice_snoc}
use Rattle.buffer.proofs.Digits.{length_bytes_of}
use Rattle.matcher.specs.Bytes.{path_limit}
use Rattle.rows.specs.Sizes.{value_size, reference_size, reference_at, length_at, path_at, row_size}
use Rattle.rows.specs.Entry.{Entry, row, fits_row}
use Rattle.rows.specs.Records.{records}
use Rattle.rows.specs.Order.{entry_order, record_order}
use Rattle.rows.specs.Sorted.{sorted}
use Rattle.rows.proofs.Rows.{fits, from_path, value_region, reference_at_lem, length_at_lem, sort_records, length_side_by_side, records_side_by_side}
use Rattle.entries.specs.Keys.{entry_key}
use Rattle.entries.specs.Slots.{slot_size, slot, slot_key, short_path}

-- ---- value, reference, length of the path, path, zeros

abbrev pub lead : List ℕ → List ℕ → ℕ → List ℕ
lead a r n = a ++ (r ++ (n ∷ []))

abbrev zeros : List ℕ → List ℕ
zeros p = replicate (slot_size - path_at - length p) 0

unfoldable pub parts : List ℕ → List ℕ → ℕ → List ℕ → List ℕ
parts a r n p = a ++ (r ++ (n ∷ (p ++ zeros p)))

module _ (a r : List ℕ) (n : ℕ) (la : length a ≡ value_size) (lr : length r ≡ reference_size) where
  pub length_lead : length (lead a r n) ≡ path_at
  length_lead = omega (arith, length-append a (r ++ (n ∷ [])), length-append r (n ∷ []))

  parts_lead : (p : List ℕ) → parts a r n p ≡ lead a r n ++ (p ++ zeros p)
  unfolding parts
  parts_lead p = simp append_assoc

  pub length_parts : (p : List ℕ) → path_at + length p ≤ slot_size → length (parts a r n p) ≡ slot_size
  length_parts p h =
      rw (parts_lead p)
      (omega (arith, length-append (lead a r n) (p ++ zeros p), length_lead, length-append p (zeros p), length-replicate {A = ℕ} (slot_size - path_at - length p) 0))

  -- from the path on
  pub parts_path : (p : List ℕ) → drop path_at (parts a r n p) ≡ p ++ zeros p
  parts_path p = rw (parts_lead p) (drop_at (lead a r n) (p ++ zeros p) path_at length_lead)

  pub parts_length : (p : List ℕ) → get_or (parts a r n p) length_at 0 ≡ n
  unfolding parts
  parts_length p =
      let l : length (a ++ r) ≡ length_at = omega (arith, length-append a r) in
      rw (← append_assoc a r (n ∷ (p ++ zeros p))) (get_or_at (a ++ r) n (p ++ zeros p) 0 length_at l)

  -- five writes, one behind the other
  pub lead_put : (s : List ℕ) (at : ℕ) → at + path_at ≤ length s
      → set (splice (splice s at a) (at + reference_at) r) (at + length_at) n ≡ splice s at (lead a r n)
  lead_put s at h =
      let one = splice_then (splice s at a) s at a (at + reference_at) r refl (omega arith) (omega arith) in
      let l : at + length (a ++ r) ≡ at + length_at = omega (arith, length-append a r) in
      rw one (rw l at (splice_snoc s at (a ++ r) n (omega arith)) ∙ ap (splice s at) (append_assoc a r (n ∷ [])))

  pub parts_put : (s : List ℕ) (at : ℕ) (p : List ℕ) → path_at + length p ≤ slot_size → at + slot_size ≤ length s
      → splice (splice (splice s at (lead a r n)) (at + path_at) p) (at + path_at + length p) (zeros p) ≡ splice s at (parts a r n p)
  parts_put s at p h l =
      let f = lead a r n in
      let one = splice_then (splice s at f) s at f (at + path_at) p refl (omega (arith, length_lead)) (omega (arith, length_lead)) in
      rw (parts_lead p)
      (splice_then _ s at (f ++ p) (at + path_at + length p) (zeros p) one
      (omega (arith, length-append f p, length_lead)) (omega (arith, length-append f p, length_lead))
      ∙ ap (splice s at) (append_assoc f p (zeros p)))

-- the end byte is the first of the zeros
pub parts_ended : (a r : List ℕ) (n : ℕ) (p : List ℕ) → path_at + length p + 1 ≤ slot_size → parts a r n (p ++ (0 ∷ [])) ≡ parts a r n p
unfolding parts
parts_ended a r n p h =
    let k : ℕ = slot_size - path_at - length (p ++ (0 ∷ [])) in
    let e : suc k ≡ slot_size - path_at - length p = omega (arith, length-append p (0 ∷ [])) in
    ap (λ (l : List ℕ). a ++ (r ++ (n ∷ l))) (append_assoc p (0 ∷ []) (replicate k 0) ∙ ap (λ (i : ℕ). p ++ replicate i 0) e)

-- ---- the slot of an entry

-- what stands behind a row
abbrev behind : List ℕ
behind = replicate (slot_size - row_size) 0

abbrev value : Entry → List ℕ
value e = bytes_of value_size e.value

pub slot_parts : (e : Entry) → length e.path ≤ path_limit → parts (value e) e.reference (length e.path) e.path ≡ slot e
unfolding parts slot row
slot_parts e short =
    let m : ℕ = path_limit - length e.path in
    let n : slot_size - path_at - length e.path ≡ m + (slot_size - row_size) = omega arith in
    rw (n, ← replicate-append-replicate {A = ℕ} m (slot_size - row_size) 0) (simp append_assoc)

module _ (e : Entry) (short : length e.path ≤ path_limit) (full : length e.reference ≡ reference_size) where
  pub slot_long : length (slot e) ≡ slot_size
  slot_long =
      rw (← slot_parts e short) (length_parts (value e) e.reference (length e.path) (length_bytes_of value_size e.value) full e.path (omega arith))

  pub slot_short : short_path (slot e) ≡ true
  unfolding short_path
  slot_short =
      rw (← slot_parts e short, parts_length (value e) e.reference (length e.path) (length_bytes_of value_size e.value) full e.path)
      (le-leb (length e.path) path_limit short)

  pub slot_put : (s : List ℕ) (at : ℕ) → at + slot_size ≤ length s
      → splice (splice (set (splice (splice s at (value e)) (at + reference_at) e.reference) (at + length_at) (length e.path))
      (at + path_at) e.path) (at + path_at + length e.path) (zeros e.path) ≡ splice s at (slot e)
  slot_put s at h =
      let lv = length_bytes_of value_size e.value in
      let n = length e.path in
      rw (lead_put (value e) e.reference n lv full s at (omega arith))
      (parts_put (value e) e.reference n lv full s at e.path (omega arith) h ∙ ap (splice s at) (slot_parts e short))

pub length_slot : (e : Entry) → fits_row e ≡ true → length (slot e) ≡ slot_size
length_slot e h = slot_long e (fits e h).short (fits e h).full

-- SLOTS SORT AS THEIR ENTRIES DO. No proof cites it: it says what `sort` makes of a level's slots
pub sort_slots : (es : List Entry) → all fits_row es ≡ true
    → flat (sorted record_order (records slot_size (length es) (flat (map slot es)))) ≡ flat (map slot (sorted entry_order es))
unfolding slot
sort_slots es h = sort_records (λ e. behind) slot_size length_slot es h

pub records_slots : (es : List Entry) → all fits_row es ≡ true → records slot_size (length es) (flat (map slot es)) ≡ map slot es
records_slots = records_side_by_side slot slot_size length_slot

pub length_slots : (es : List Entry) → all fits_row es ≡ true → length (flat (map slot es)) ≡ length es * slot_size
length_slots = length_side_by_side slot slot_size length_slot

-- the first of zeros and of what stands behind them
first_zero : (m : ℕ) (g : List ℕ) → take 1 (replicate m 0 ++ (0 ∷ g)) ≡ 0 ∷ []
first_zero zero g = refl
first_zero (suc m) g = refl

module _ (e : Entry) (h : fits_row e ≡ true) where
  path_ended : region (slot e) path_at (length e.path + 1) ≡ e.path ++ (0 ∷ [])
  unfolding slot padded
  path_ended =
      let m = path_limit - length e.path in
      rw (from_path e (fits e h) behind, append_assoc e.path (replicate m 0) behind, take-append-add e.path (replicate m 0 ++ behind) 1)
      (ap (◌++◌ e.path) (first_zero m (replicate (slot_size - row_size - 1) 0)))

  pub slot_key_lem : slot_key (slot e) ≡ entry_key e
  unfolding slot_key slot entry_key
  slot_key_lem =
      let v = value_region e (fits e h) behind in
      let p : region (row e ++ behind) path_at (get_or (row e ++ behind) length_at 0 + 1) ≡ e.path ++ (0 ∷ []) = rw (length_at_lem e h behind) path_ended in
      λ i. record { strings = v i ∷ p i ∷ []; reference = reference_at_lem e h behind i }
