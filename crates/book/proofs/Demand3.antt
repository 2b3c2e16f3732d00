-- DEMAND 3, and demand 2's part of it, by induction over the list of calls.
use Prim.Native.Nat.{ℕ}
use mathlib.Core.Path.{◌≡◌, refl, sym, ap, ap₂, ◌∙◌}
use mathlib.Core.List.{List, [], ◌∷◌, ◌++◌}
use lib.Seq.{length-take-le}
use Rattle.book.specs.Book.{Book, blank}
use Rattle.book.specs.Replies.{Reply, Result, setup_number}
use Rattle.book.specs.Calls.{Call}
use Rattle.book.specs.Step.{answers, after}
use Rattle.book.specs.Image.{HoldsBook}
use Rattle.book.specs.Ran.{Ran, done, next, Begun, begun}
use Rattle.book.specs.Demand3.{AsTheBook, Demand3, Cut, EveryCut}
use Rattle.book.proofs.OneCall.{one_call, setup_accepted}

-- from a memory that holds the book
goes_on : {memory end : List ℕ} {calls : List Call} {results : List Result} {b : Book} → HoldsBook memory b → Ran memory calls results end
    → AsTheBook b calls results end
unfolding answers after
goes_on h done = record { results_equal = refl; holds = h }
goes_on h (next {c = c} d ran) =
    let a = one_call c h d in
    let g = goes_on a.holds ran in
    record { results_equal = ap₂ ◌∷◌ a.result g.results_equal; holds = g.holds }

begins : {memory end : List ℕ} {calls : List Call} {results : List Result} → Ran memory calls results end → Begun calls results
    → AsTheBook blank calls results end
unfolding answers after
begins done s = elim s [ ]
begins (next {memory = memory} d ran) (begun {n = n} {m = m} {l = l} {t = t} e) =
    let number : setup_number n m l t ≡ 0 = sym (rw (length-take-le n memory d.inside) at (ap (λ (x : Reply). x.number) d.promise.0.answers)) ∙ e in
    let a = setup_accepted blank d number in
    let g = goes_on a.holds ran in
    record { results_equal = ap₂ ◌∷◌ a.result g.results_equal; holds = g.holds }

-- DEMAND 3: whatever the memory held
pub demand_3 : Demand3
demand_3 memory end calls results ran start = begins ran start

-- a list can be cut at every place
cut : {memory end : List ℕ} (xs : List Call) {ys : List Call} {results : List Result} → Ran memory (xs ++ ys) results end
    → Cut memory xs ys results end
cut [] ran = record { between = _; firsts = []; others = _; parts = refl; ran_first = done; ran_others = ran }
cut (x ∷ xs) (next {r = r} d ran) =
    let k = cut xs ran in
    record { between = k.between; firsts = r ∷ k.firsts; others = k.others; parts = ap (λ (l : List Result). r ∷ l) k.parts; ran_first = next d k.ran_first; ran_others = k.ran_others }

pub every_cut : EveryCut
every_cut memory end xs ys results ran = cut xs ran
