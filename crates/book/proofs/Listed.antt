-- Which entries stand in a list, and how often: sorting keeps it, picking keeps what passes, a stretch has none more often.
use Prim.Native.Nat.{ℕ, suc, ◌≤◌}
use mathlib.Core.Path.{◌≡◌, refl, sym, ap, ◌∙◌}
use mathlib.Core.Bool.{Bool, true, false, not, cond, ◌&&◌, ◌||◌}
use mathlib.Core.List.{List, [], ◌∷◌}
use native.Mathlib.Omega.{arith}
use lib.ListN.{take, drop, take-append-drop}
use lib.Dec.{ltb}
use borrow.Author.Tests.{le-ltb, not-true, ltb-false}
use Rattle.buffer.specs.Lists.{any, pick, count}
use Rattle.buffer.proofs.Tests.{and_left, and_right, and_both}
use Rattle.buffer.proofs.Sums.{any_count, count_append}
use Rattle.rows.specs.Entry.{Entry, same_entry}
use Rattle.rows.specs.Order.{entry_order}
use Rattle.rows.specs.Sorted.{sorted}
use Rattle.rows.proofs.Sorted.{count_sorted}
use Rattle.rows.proofs.Rows.{same_entry_lem}
use Rattle.book.specs.Book.{has, distinct}

pub has_sorted : (es : List Entry) (e : Entry) → has (sorted entry_order es) e ≡ has es e
has_sorted es e = any_count (same_entry e) (sorted entry_order es) ∙ ap (ltb 0) (count_sorted entry_order (same_entry e) es) ∙ sym (any_count (same_entry e) es)

-- what is picked
module _ (p : Entry → Bool) (e : Entry) where
  pub has_pick : (es : List Entry) → has (pick p es) e ≡ p e && has es e
  unfolding any pick
  has_pick [] = go (p e)
    where
      go : (b : Bool) → false ≡ b && false
      go true = refl
      go false = refl
  has_pick (x ∷ es) = go (p x) refl (same_entry e x) refl (has_pick es)
    where
      test : same_entry e x ≡ true → p e ≡ p x
      test s = ap p (same_entry_lem.equal e x s)

      go : (b : Bool) → p x ≡ b → (s : Bool) → same_entry e x ≡ s → has (pick p es) e ≡ p e && has es e
          → any (same_entry e) (cond b (x ∷ pick p es) (pick p es)) ≡ p e && (s || has es e)
      go true q true s ih = rw (s, test s, q)
      go true q false s ih = rw s ih
      go false q true s ih = ih ∙ rw (test s, q)
      go false q false s ih = ih

  pub count_pick : (es : List Entry) → count (same_entry e) (pick p es) ≤ count (same_entry e) es
  unfolding count pick
  count_pick [] = omega arith
  count_pick (x ∷ es) = go (p x) (same_entry e x) refl (count_pick es)
    where
      go : (b s : Bool) → same_entry e x ≡ s → count (same_entry e) (pick p es) ≤ count (same_entry e) es
          → count (same_entry e) (cond b (x ∷ pick p es) (pick p es)) ≤ cond s (suc (count (same_entry e) es)) (count (same_entry e) es)
      go true true s ih = rw s (omega arith)
      go true false s ih = rw s ih
      go false true s ih = omega arith
      go false false s ih = ih

-- distinct: none more than once
pub Once : List Entry → Type 0
Once es = (e : Entry) → count (same_entry e) es ≤ 1

pub distinct_once : (es : List Entry) → distinct es ≡ true → Once es
unfolding Once distinct count
distinct_once [] d e = omega arith
distinct_once (x ∷ es) d e = go (same_entry e x) refl (distinct_once es (and_right (not (has es x)) (distinct es) d) e)
  where
    none : ltb 0 (count (same_entry x) es) ≡ false
    none = sym (any_count (same_entry x) es) ∙ not-true (has es x) (and_left (not (has es x)) (distinct es) d)

    go : (s : Bool) → same_entry e x ≡ s → count (same_entry e) es ≤ 1 → cond s (suc (count (same_entry e) es)) (count (same_entry e) es) ≤ 1
    go true s ih =
        let z : count (same_entry e) es ≤ 0 = rw (same_entry_lem.equal e x s) (ltb-false 0 (count (same_entry x) es) none) in
        omega arith
    go false s ih = ih

pub once_distinct : (es : List Entry) → Once es → distinct es ≡ true
unfolding Once distinct count
once_distinct [] o = refl
once_distinct (x ∷ es) o =
    and_both {a = not (has es x)} (rw (any_count (same_entry x) es, le-ltb 0 (count (same_entry x) es) (first (o x)))) (once_distinct es (λ e. less (same_entry e x) (o e)))
  where
    first : cond (same_entry x x) (suc (count (same_entry x) es)) (count (same_entry x) es) ≤ 1 → count (same_entry x) es ≤ 0
    first h = let k : suc (count (same_entry x) es) ≤ 1 = rw (same_entry_lem.self x) at h in omega arith

    less : {n : ℕ} (s : Bool) → cond s (suc n) n ≤ 1 → n ≤ 1
    less true h = omega arith
    less false h = h

pub distinct_sorted : (es : List Entry) → distinct es ≡ true → distinct (sorted entry_order es) ≡ true
unfolding Once
distinct_sorted es d = once_distinct (sorted entry_order es) (λ e. rw (count_sorted entry_order (same_entry e) es) (distinct_once es d e))

pub distinct_pick : (p : Entry → Bool) (es : List Entry) → distinct es ≡ true → distinct (pick p es) ≡ true
unfolding Once
distinct_pick p es d = once_distinct (pick p es) (λ e. omega (arith, count_pick p e es, distinct_once es d e))

pub distinct_part : (n k : ℕ) (es : List Entry) → distinct es ≡ true → distinct (take n (drop k es)) ≡ true
unfolding Once
distinct_part n k es d =
    once_distinct (take n (drop k es)) (λ e.
    let c = count (same_entry e) in
    omega (arith, distinct_once es d e, ap c (take-append-drop k es), count_append (same_entry e) (take k es) (drop k es), ap c (take-append-drop n (drop k es)), count_append (same_entry e) (take n (drop k es)) (drop n (drop k es))))
