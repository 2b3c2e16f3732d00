-- Why a builder ends: the undecided bytes of a set, those behind what its keys share, fall from a set to each of its parts.
use Prim.Native.Nat.{ℕ, ◌+◌, ◌≤◌, ◌<◌}
use mathlib.Core.Path.{◌≡◌}
use mathlib.Core.Bool.{true}
use mathlib.Core.List.{List, ◌∷◌, ◌++◌}
use native.Mathlib.Omega.{arith}
use lib.ListN.{length}
use Rattle.trie_theory.specs.Forest.{Strings, Key}
use Rattle.buffer.specs.Lists.{All, nil, cons, sum, flat}
use Rattle.trie_theory.specs.Strings.{strip, total}
use Rattle.trie_theory.specs.Position.{shared, differ}
use Rattle.trie_theory.specs.Parts.{parts}
use Rattle.buffer.proofs.Lists.{all_imp}
use Rattle.buffer.proofs.Sums.{sum_append, sum_more}
use Rattle.trie_theory.proofs.Prefix.{From, shared_all}
use Rattle.trie_theory.proofs.Strings.{total_strip_strip, first_some, some_total}
use Rattle.trie_theory.proofs.Parts.{Partition, done, part, partition, part_first, part_from, differ_inside, sum_parts}

-- the bytes of keys behind k
unfoldable pub behind : Strings → List Key → ℕ
behind k ks = sum (λ x. total (strip k x.strings)) ks

-- the undecided bytes of a set
unfoldable pub undecided : List Key → ℕ
unfolding behind
undecided ks = behind (shared ks) ks

module _ (d : ℕ) (p : Strings) (inside : d < length p) where
  -- each part has fewer bytes behind its own shared bytes than all parts have behind p
  each_falls : {b : ℕ} {ps : List (List Key)} → Partition d p (From p) b ps → All (λ q. undecided q < behind p (flat ps)) ps
  unfolding flat behind undecided
  each_falls done = nil
  each_falls (part {x = x} {xs = xs} {ps = ps} c l u a r) =
      let s = shared (x ∷ xs) in
      let h : Key → ℕ = λ y. total (strip p y.strings) in
      let e : sum h ((x ∷ xs) ++ flat ps) ≡ sum h (x ∷ xs) + sum h (flat ps) = sum_append h (x ∷ xs) (flat ps) in
      let byte : 1 ≤ total (strip p s) = some_total d (strip p s)
      (first_some d (strip p s) (let q = part_first d c p inside u a in omega arith)) in
      let n : total (strip p s) + behind s (x ∷ xs) ≤ sum h (x ∷ xs) =
      sum_more (total (strip p s)) (λ y. total (strip s y.strings)) h (omega arith)
      (all_imp (λ y f. omega (arith, total_strip_strip p s y.strings (part_from d c p inside u a) f)) (shared_all (x ∷ xs))) in
      cons {x = x ∷ xs} (omega arith) (all_imp (λ q m. omega arith) (each_falls r))

-- UNDECIDED BYTES FALL
pub parts_fall : (d : ℕ) (x : Key) (xs : List Key) → differ d (x ∷ xs) ≡ true
    → All (λ q. undecided q < undecided (x ∷ xs)) (parts d (x ∷ xs))
unfolding undecided behind
parts_fall d x xs e =
    let ks : List Key = x ∷ xs in
    let p = shared ks in
    let s : behind p (flat (parts d ks)) ≡ behind p ks = sum_parts (λ y. total (strip p y.strings)) d ks e in
    all_imp (λ q m. omega arith) (each_falls d p (differ_inside d x xs e) (partition (From p) d (shared_all ks)))
