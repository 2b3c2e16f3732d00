-- What is printed for a search, from the rows in the answer buffer. Assumes nothing.
use mathlib.Core.Path.{◌≡◌, refl, sym, ap, ap₂, ◌∙◌}
use mathlib.Core.Bool.{true}
use Prim.Native.Nat.{ℕ, zero, suc, ◌+◌, ◌*◌, ◌≤◌, ◌<◌}
use mathlib.Core.List.{List, [], ◌∷◌, ◌++◌, map, append-nil}
use native.Mathlib.Omega.{arith}
use native.Mathlib.Nat.{min-le_right}
use lib.Seq.{take-suc}
use native.Mathlib.Numerals.{add-one}
use Rattle.std.specs.Simd.{first_chunks}
use lib.ListN.{length, take, drop, get_or, length-append, length-map, length-drop, length-take}
use Rattle.buffer.specs.Lists.{All, all, flat}
use Rattle.buffer.specs.Numbers.{number}
use Rattle.buffer.specs.Splice.{splice, region}
use Rattle.rows.specs.Sizes.{value_size, reference_size, reference_at, length_at, path_at, row_size}
use Rattle.rows.specs.Entry.{Entry, row, entry_of, fits_row}
use Rattle.rows.specs.Records.{records}
use Rattle.rows.proofs.Records.{records_joined, records_nth, record_inside}
use Rattle.rows.proofs.Rows.{all_wide, length_row, entry_of_row}
use Rattle.logline.specs.Sizes.{row_line_limit}
use Rattle.logline.specs.Spelling.{entry_line, row_line, Wrote}
use Rattle.linespell.proofs.Decimals.{length_decimal}
use Rattle.linespell.proofs.Writing.{length_hex, then}
use Rattle.buffer.proofs.Splice.{length_region, splice_is, splice_nil}
use Rattle.buffer.proofs.Lists.{map_append, flat_append, all_tested, all_head, all_tail}

-- ---- rows one after another

-- the first chunks of a slice are its records
pub first_rows : (w n m : ℕ) (s : List ℕ) → n ≤ m → take n (first_chunks w m s) ≡ records w n s
unfolding records
first_rows w zero m s h = refl
first_rows w (suc n) zero s h = absurd (omega arith)
first_rows w (suc n) (suc m) s h = ap (λ (rs : List (List ℕ)). take w s ∷ rs) (first_rows w n m (drop w s) (omega arith))

pub row_whole : (n : ℕ) (s : List ℕ) → n * row_size ≤ length s → (i : ℕ) → i < n → length (get_or (records row_size n s) i []) ≡ row_size
row_whole n s room i h = rw (records_nth row_size n s i h) (length_region s (i * row_size) row_size (omega (arith, record_inside i n row_size h)))

pub row_line_length : (r : List ℕ) → length r ≡ row_size → length (row_line r) ≤ row_line_limit
unfolding entry_line entry_of
row_line_length r l =
    let n = get_or r length_at 0 in
    let reference : length (region r reference_at reference_size) ≡ reference_size = length_region r reference_at reference_size (omega arith) in
    let path : length (region r path_at n) ≤ 200 = omega (arith, length-take n (drop path_at r), length-drop path_at r, min-le_right n (length (drop path_at r))) in
    simp (length-append, length_hex) (omega (arith, length_decimal (number (region r 0 value_size)), reference, path))

-- ---- the rows found, in the answer buffer: they are there, and the lines of them are those of the entries

module _ (es : List Entry) (fit : all fits_row es ≡ true) (answer : List ℕ) where
  rows_there : records row_size (length es) (splice answer 0 (flat (map row es))) ≡ map row es
  rows_there =
      ap₂ (records row_size) (sym (length-map es row)) (splice_is answer 0 (flat (map row es)))
      ∙ records_joined row_size (map row es) (drop (0 + length (flat (map row es))) answer) (all_wide row row_size length_row es fit)

  pub lines_of_rows : flat (map row_line (records row_size (length es) (splice answer 0 (flat (map row es))))) ≡ flat (map entry_line es)
  lines_of_rows = ap (λ (rs : List (List ℕ)). flat (map row_line rs)) rows_there ∙ ap flat (go es (all_tested fits_row es fit))
    where
      go : (es : List Entry) → All (λ e. fits_row e ≡ true) es → map row_line (map row es) ≡ map entry_line es
      go [] a = refl
      go (e ∷ es) a = ap₂ ◌∷◌ (ap entry_line (entry_of_row e (all_head a))) (go es (all_tail a))

-- ---- row lines written one after another

pub print_none : (out : List ℕ) → Wrote out 0 (flat (map row_line [])) out 0
unfolding flat
print_none out = record { is = sym (splice_nil out 0); ends = refl; room = omega arith }

pub print_more : (rows : List (List ℕ)) (i : ℕ) → i < length rows → {out₀ out out' : List ℕ} {at n : ℕ} → Wrote out₀ 0 (flat (map row_line (take i rows))) out at
    → Wrote out at (row_line (get_or rows i [])) out' n → Wrote out₀ 0 (flat (map row_line (take (i + 1) rows))) out' n
unfolding flat
print_more rows i h {out₀} {out} {out'} {at} {n} a w =
    let rs = take i rows in
    let x = get_or rows i [] in
    let e : flat (map row_line (take (i + 1) rows)) ≡ flat (map row_line rs) ++ row_line x =
    rw (add-one, take-suc rows i [] h) (ap flat (map_append row_line rs (x ∷ []))
    ∙ flat_append (map row_line rs) (row_line x ∷ []) ∙ ap (λ (y : List ℕ). flat (map row_line rs) ++ y) (append-nil (row_line x))) in
    rw e (then a w)
