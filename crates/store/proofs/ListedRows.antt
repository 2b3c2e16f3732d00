-- The rows that a walk found, sorted, in the answer; and whether they have room there: for rows of any width. Assumes nothing.
use Prim.Native.Nat.{ℕ, ◌+◌, ◌*◌, ◌/◌, ◌≤◌, ◌<◌, min}
use mathlib.Core.Path.{◌≡◌, refl, sym, ap, ◌∙◌}
use mathlib.Core.Bool.{true}
use mathlib.Core.Logic.{inr}
use mathlib.Core.List.{List, [], append-nil}
use native.Mathlib.Omega.{arith}
use native.Mathlib.Nat.{mul-le-mul_right, div-lt_iff_lt-mul}
use lib.ListN.{length, take, drop, length-take}
use lib.Seq.{take_all}
use Rattle.buffer.specs.Lists.{all, flat}
use Rattle.buffer.specs.Splice.{splice, region}
use Rattle.buffer.proofs.Lists.{tested_take}
use Rattle.buffer.proofs.Splice.{length_splice, region_at_lem, splice_over, drop_after}
use Rattle.rows.specs.Order.{record_order}
use Rattle.rows.specs.Sorted.{sorted}
use Rattle.rows.specs.Records.{records}
use Rattle.rows.proofs.Records.{wide, records_joined, length_joined}
use Rattle.rows.proofs.Sorted.{all_sorted, length_sorted}
use Rattle.book.specs.Replies.{reply, result}
use Rattle.book.specs.Step.{list}
use Rattle.book.specs.Promises.{Accepted}
use Rattle.book.proofs.Listing.{list_room, list_over}
use Rattle.std.specs.Prelude.{Some, None}
use Rattle.store.specs.Listing.{Walked, Overfull, Filled, Listed}

counted : {width : ℕ} {Rows : List (List ℕ) → ℕ → Type 0} {room : ℕ} {s s' : List ℕ} {n d : ℕ} → Walked width Rows room s s' n d
    → (rows : List (List ℕ)) (second : ℕ) → Rows rows second → n ≡ length rows
counted a rows second h = a.count ∙ sym (length_sorted record_order a.put) ∙ ap length (a.are rows second h).0

-- ---- are there more than there is room for?

module _ {width : ℕ} {Rows : List (List ℕ) → ℕ → Type 0} {s s' : List ℕ} {n d : ℕ} (held room : ℕ) (a : Walked width Rows 0 s s' n d) where
  pub found_room : n ≤ room → Overfull Rows held room None
  found_room h = λ rows second k few. omega (arith, counted a rows second k)

  pub found_over : (r : ℕ) → room < held → room < n → r ≡ min n held → Overfull Rows held room (Some r)
  found_over r h l e = (omega arith, omega arith, λ rows second k few. omega (arith, counted a rows second k))

-- ---- rows are written, and sorted

module _ {width : ℕ} {Rows : List (List ℕ) → ℕ → Type 0} {room : ℕ} {answer s : List ℕ} {n d : ℕ} (a : Walked width Rows room answer s n d)
    (fits : room * width ≤ length answer) where
  abbrev taken : List (List ℕ)
  taken = take room a.put

  abbrev in_order : List ℕ
  in_order = flat (sorted record_order taken)

  even : all (wide width) taken ≡ true
  even = tested_take (wide width) room a.put a.even

  length_taken : length taken ≡ min n room
  length_taken = omega (arith, length-take room a.put, a.count)

  length_written : length (flat taken) ≡ length taken * width
  length_written = length_joined width taken even

  length_order : length in_order ≡ length taken * width
  length_order =
      length_joined width (sorted record_order taken) (all_sorted record_order (wide width) taken even)
      ∙ ap (λ (k : ℕ). k * width) (length_sorted record_order taken)

  taken_fits : length taken * width ≤ length answer
  taken_fits = omega (arith, mul-le-mul_right {m = length taken} {n = room} width (omega (arith, length_taken)))

  rows_back : records width (length taken) (flat taken) ≡ taken
  rows_back = let r = records_joined width taken [] even in rw (append-nil (flat taken)) at r

  module _ (rows : ℕ) (filled : List ℕ) (e : rows ≡ min n room)
      (is : filled ≡ splice s 0 (flat (sorted record_order (records width rows (region s 0 (rows * width)))))) where
    as_taken : rows ≡ length taken
    as_taken = e ∙ sym length_taken

    wide_rows : rows * width ≡ length taken * width
    wide_rows = ap (λ (k : ℕ). k * width) as_taken

    stretch : region s 0 (rows * width) ≡ flat taken
    stretch =
        let k : rows * width ≡ length (flat taken) = wide_rows ∙ sym length_written in
        (λ i. region (a.writes i) 0 (k i)) ∙ region_at_lem answer 0 (flat taken) (omega (arith, length_written, taken_fits))

    sorted_in : filled ≡ splice answer 0 in_order
    sorted_in =
        is ∙ (λ i. splice (a.writes i) 0 (flat (sorted record_order (records width (as_taken i) (stretch i)))))
        ∙ ap (λ (rs : List (List ℕ)). splice (splice answer 0 (flat taken)) 0 (flat (sorted record_order rs))) rows_back
        ∙ splice_over answer 0 (flat taken) (omega (arith, length_written, taken_fits)) in_order (length_order ∙ sym length_written)

    inside : 0 + length in_order ≤ length answer
    inside = omega (arith, length_order, taken_fits)

    accepts : Accepted width answer filled (reply 0 rows d)
    accepts =
        record {
          number = refl;
          room = omega (arith, wide_rows, taken_fits);
          size = ap length sorted_in ∙ length_splice answer 0 in_order inside;
          after_rows = ap (drop (rows * width)) sorted_in ∙ drop_after answer 0 in_order inside (rows * width) (omega (arith, length_order, wide_rows));
        }

    from_tries : (rs : List (List ℕ)) (second : ℕ) → Rows rs second → length rs ≤ room → result (reply 0 rows d) filled ≡ list width rs second answer
    from_tries rs second h few =
        let z = a.are rs second h in
        let n-is = counted a rs second h in
        let whole : taken ≡ a.put = take_all room a.put (omega (arith, a.count, n-is)) in
        let count : rows ≡ length rs = omega (arith, n-is) in
        let ordered : in_order ≡ flat rs = ap (λ (xs : List (List ℕ)). flat (sorted record_order xs)) whole ∙ ap flat z.0 in
        (λ i. result (reply 0 (count i) (z.1 i)) ((sorted_in ∙ ap (splice answer 0) ordered) i))
        ∙ sym (list_room width rs second answer (omega (arith, ap (λ (k : ℕ). k * width) count, wide_rows, taken_fits)))

    pub fills : Filled width Rows room answer filled (reply 0 rows d)
    fills = record { accepted = accepts; ours = from_tries }

-- ---- the listing

module _ (width : ℕ) (Rows : List (List ℕ) → ℕ → Type 0) (held room : ℕ) (answer : List ℕ) where
  pub lists_over : (r : ℕ) → 0 < width → Overfull Rows held room (Some r) → room ≡ length answer / width → Listed width Rows held answer answer (reply 11 r 0)
  lists_over r some o e =
      let more : length answer < r * width = (div-lt_iff_lt-mul {k = width} {x = length answer} {y = r} some).0 (omega (arith, o.0)) in
      record {
        otherwise = inr (record { number = refl; room = more; few = o.1; second = refl; unchanged = refl });
        ours = λ rows second h few.
            let z = o.2 rows second h few in
            ap (λ (n : ℕ). result (reply 11 n 0) answer) z ∙ sym (list_over width rows second answer (omega (arith, more, ap (λ (k : ℕ). k * width) z)));
      }
