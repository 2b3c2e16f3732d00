-- Lists of slots: what holds of each, and of all. Assumes nothing.
use mathlib.Core.Path.{◌≡◌, refl, ap}
use mathlib.Core.Bool.{Bool, ◌&&◌}
use Prim.Native.Nat.{ℕ, zero, suc, ◌<◌}
use mathlib.Core.List.{List, [], ◌∷◌, map}
use native.Mathlib.Omega.{arith}
use lib.ListN.{length, get_or}
use Rattle.std.specs.List.{list_all}
use Rattle.buffer.specs.Lists.{all, All, nil, cons}
use Rattle.buffer.proofs.Lists.{all_map, all_unmap}
use Rattle.entries.specs.Slots.{slot_key}
use Rattle.trie_theory.specs.Forest.{Key}

-- slot k
abbrev pub nth : List (List ℕ) → ℕ → List ℕ
nth rs k = get_or rs k []

module _ {P : List ℕ → Type 0} where
  pub all_slots : (rs : List (List ℕ)) → ((k : ℕ) → k < length rs → P (nth rs k)) → All P rs
  all_slots [] f = nil
  all_slots (r ∷ rs) f = cons (f 0 (omega arith)) (all_slots rs (λ k h. f (suc k) (omega arith)))

  pub slots_all : {rs : List (List ℕ)} → All P rs → (k : ℕ) → k < length rs → P (nth rs k)
  slots_all nil k h = absurd (omega arith)
  slots_all (cons p a) zero h = p
  slots_all (cons p a) (suc k) h = slots_all a k (omega arith)

-- the same of keys
module _ {P : Key → Type 0} (rs : List (List ℕ)) where
  pub all_keys : ((k : ℕ) → k < length rs → P (slot_key (nth rs k))) → All P (map slot_key rs)
  all_keys f = all_map slot_key (λ r h. h) (all_slots {P = λ r. P (slot_key r)} rs f)

  pub keys_all : All P (map slot_key rs) → (k : ℕ) → k < length rs → P (slot_key (nth rs k))
  keys_all a = slots_all {P = λ r. P (slot_key r)} (all_unmap slot_key (λ r h. h) rs a)

-- std's word for all, and buffer's
pub list_all_is : {A : Type 0} (t : A → Bool) (xs : List A) → list_all t xs ≡ all t xs
list_all_is t [] = refl
list_all_is t (x ∷ xs) = ap (λ (b : Bool). t x && b) (list_all_is t xs)
