-- Complete keys: they are free of one another, and have so many bytes.
use Prim.Native.Nat.{ℕ, zero, suc, ◌+◌, ◌≤◌}
use mathlib.Core.Path.{◌≡◌, refl, sym, ap, ◌∙◌}
use mathlib.Core.Bool.{Bool, true, false, ◌&&◌, false≢true}
use mathlib.Core.List.{List, [], ◌∷◌, ◌++◌}
use native.Mathlib.Omega.{arith}
use lib.ListN.{length, length-append}
use borrow.Author.Tests.{eqb-true}
use Rattle.trie_theory.specs.Forest.{Strings, Key}
use Rattle.buffer.specs.Sizes.{value_size, path_limit}
use Rattle.buffer.specs.Lists.{All, nil, cons}
use Rattle.trie_theory.specs.Strings.{at, total}
use Rattle.trie_theory.specs.Entries.{complete, Stops, is_value, is_path, dims, key_limit, OfEntry}
use Rattle.buffer.proofs.Tests.{and_left, and_right}
use Rattle.trie_theory.proofs.Free.{Free}

value_stops : Stops is_value
unfolding Stops is_value
value_stops u [] p q = refl
value_stops u (b ∷ v) p q = absurd (omega (arith, eqb-true (length u) value_size p, eqb-true (length (u ++ (b ∷ v))) value_size q, length-append u (b ∷ v)))

path_stops : Stops is_path
unfolding Stops is_path
path_stops [] v p q = absurd (false≢true p)
path_stops (zero ∷ []) [] p q = refl
path_stops (zero ∷ []) (b ∷ v) p q = absurd (false≢true q)
path_stops (zero ∷ b ∷ u) v p q = absurd (false≢true p)
path_stops (suc a ∷ u) v p q = path_stops u v p q

pub dims_stop : All Stops dims
unfolding dims
dims_stop = cons value_stops (cons path_stops nil)

pub complete_wide : (cs : List (List ℕ → Bool)) (k : Strings) → complete cs k ≡ true → length k ≡ length cs
unfolding complete
complete_wide [] [] e = refl
complete_wide [] (s ∷ ss) e = absurd (false≢true e)
complete_wide (c ∷ cs) [] e = absurd (false≢true e)
complete_wide (c ∷ cs) (s ∷ ss) e = ap suc (complete_wide cs ss (and_right (c s) (complete cs ss) e))

free_at : {cs : List (List ℕ → Bool)} → All Stops cs → (k x : Strings) → complete cs k ≡ true → complete cs x ≡ true
    → (d : ℕ) (u : List ℕ) → at d x ≡ at d k ++ u → u ≡ []
unfolding complete Stops
free_at nil [] [] p q d u e = sym e
free_at nil [] (x ∷ xs) p q d u e = absurd (false≢true q)
free_at nil (k ∷ ks) x p q d u e = absurd (false≢true p)
free_at (cons h a) [] x p q d u e = absurd (false≢true p)
free_at (cons h a) (k ∷ ks) [] p q d u e = absurd (false≢true q)
free_at (cons {x = c} {xs = cs} h a) (k ∷ ks) (x ∷ xs) p q zero u e =
    h k u (and_left (c k) (complete cs ks) p) (ap c (sym e) ∙ and_left (c x) (complete cs xs) q)
free_at (cons {x = c} {xs = cs} h a) (k ∷ ks) (x ∷ xs) p q (suc d) u e =
    free_at a ks xs (and_right (c k) (complete cs ks) p) (and_right (c x) (complete cs xs) q) d u e

-- COMPLETE KEYS ARE FREE of one another
pub complete_free : {cs : List (List ℕ → Bool)} → All Stops cs → (x y : Key) → complete cs x.strings ≡ true
    → complete cs y.strings ≡ true → Free x y
unfolding Free
complete_free h x y p q = free_at h x.strings y.strings p q

-- an entry has two strings, of at most so many bytes
entry_bytes : (k : Strings) → complete dims k ≡ true → length (at 1 k) ≤ path_limit + 1 → total k ≤ key_limit
unfolding complete dims total is_value
entry_bytes [] e l = omega arith
entry_bytes (v ∷ []) e l = absurd (false≢true (and_right (is_value v) false e))
entry_bytes (v ∷ p ∷ []) e l = omega (arith, l, eqb-true (length v) value_size (and_left (is_value v) (is_path p && true) e))
entry_bytes (v ∷ p ∷ q ∷ ss) e l = absurd (false≢true (and_right (is_path p) false (and_right (is_value v) (is_path p && false) e)))

pub entry_total : (x : Key) → OfEntry x → total x.strings ≤ key_limit
entry_total x e = entry_bytes x.strings e.whole e.short

pub entry_wide : (x : Key) → OfEntry x → length x.strings ≡ 2
unfolding dims
entry_wide x e = complete_wide dims x.strings e.whole
