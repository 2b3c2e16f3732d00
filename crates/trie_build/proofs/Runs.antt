-- A run of slots with one byte in the column is the first of the parts that are left. Assumes nothing.
use mathlib.Core.Path.{◌≡◌, refl, sym, ap, ◌∙◌}
use mathlib.Core.Bool.{Bool, true, false}
use Prim.Native.Nat.{ℕ, zero, suc, ◌+◌, ◌≤◌, ◌<◌}
use mathlib.Core.List.{List, [], ◌∷◌, ◌++◌, map}
use native.Mathlib.Omega.{arith}
use lib.ListN.{length, get_or, take, drop, length-append, length-map, length-drop}
use lib.Seq.{take_at, drop_at, get_or-take}
use lib.Dec.{ltb}
use borrow.Author.Tests.{ltb-true, ltb-false}
use Rattle.std.specs.Prelude.{Option, Some, None, MatchOption}
use Rattle.std.specs.Option.{unwrap_or}
use Rattle.std.specs.List.{AllWithin, HoldsAt}
use Rattle.buffer.specs.Lists.{flat}
use Rattle.buffer.proofs.Lists.{all_imp, all_head}
use Rattle.entries.specs.Slots.{slot_key}
use Rattle.trie_theory.specs.Forest.{Strings, Key}
use Rattle.trie_theory.specs.Position.{shared, byte}
use Rattle.trie_theory.proofs.Prefix.{Prefixes, From}
use Rattle.trie_theory.proofs.Parts.{Partition, done, part, part_from}
use Rattle.trie_sets.specs.Positions.{slot_byte}
use Rattle.trie_build.specs.Steps.{Run}
use Rattle.trie_sets.proofs.Sets.{nth, keys_all}
use Rattle.trie_build.proofs.Columns.{column, slot_first}

-- what `position` finds
pub run_found : (rs : List (List ℕ)) (column : ℕ) (r : Option ℕ) → 0 < length rs
    → MatchOption r (AllWithin (λ x. get_or x column 0 ≡ slot_byte rs 0 column) rs 0 (length rs))
    (λ i. (i < length rs) × HoldsAt (λ x. get_or x column 0 ≡ slot_byte rs 0 column → ⊥) rs i × AllWithin (λ x. get_or x column 0 ≡ slot_byte rs 0 column) rs 0 i)
    → Run rs column (unwrap_or r (length rs))
run_found rs column None h m = record { some = h; most = omega arith; alike = λ k l. m k [] (omega arith) l; ends = λ l e. omega arith }
run_found rs column (Some zero) h m = absurd (m.1 [] refl)
run_found rs column (Some (suc i)) h m =
    record { some = omega arith; most = omega (arith, m.0); alike = λ k l. m.2 k [] (omega arith) l; ends = λ l e. m.1 [] e }

-- ---- the first keys of slots, and the others

map_take : (n : ℕ) (rs : List (List ℕ)) → take n (map slot_key rs) ≡ map slot_key (take n rs)
map_take zero rs = refl
map_take (suc n) [] = refl
map_take (suc n) (r ∷ rs) = ap (λ (l : List Key). slot_key r ∷ l) (map_take n rs)

map_drop : (n : ℕ) (rs : List (List ℕ)) → drop n (map slot_key rs) ≡ map slot_key (drop n rs)
map_drop zero rs = refl
map_drop (suc n) [] = refl
map_drop (suc n) (r ∷ rs) = map_drop n rs

map_nth : (rs : List (List ℕ)) (k : ℕ) (x : Key) (xs : List Key) → drop k (map slot_key rs) ≡ x ∷ xs → slot_key (nth rs k) ≡ x
map_nth [] zero x xs e = absurd cc
map_nth [] (suc k) x xs e = absurd cc
map_nth (r ∷ rs) zero x xs e = cc
map_nth (r ∷ rs) (suc k) x xs e = map_nth rs k x xs e

-- ---- the first part

-- the first r of the slots are the first part of those that are left
pub record Taken (d : ℕ) (p : Strings) (rs : List (List ℕ)) (r : ℕ) (left : List (List Key)) : Type 0 where
  pub rest : List (List Key)
  pub is : left ≡ map slot_key (take r rs) ∷ rest
  pub after : map slot_key (drop r rs) ≡ flat rest
  pub least : ℕ
  pub split : Partition d p (From p) least rest
  pub from : Prefixes p (shared (map slot_key (take r rs)))

module _ (d : ℕ) (p : Strings) (u : d < 2) (inside : d < length p) (rs : List (List ℕ)) where
  -- the byte in the column of a key with byte c
  own_byte : (c k : ℕ) → c < 256 → byte d p (slot_key (nth rs k)) ≡ c → slot_byte rs k (column d p) ≡ c
  own_byte c k h e = sym (slot_first d p (nth rs k) u (omega arith)) ∙ e

  module _ (r : ℕ) (w : Run rs (column d p) r) where
    -- where the first l slots have byte c, and the next, if there is one, a greater, the run is l
    run_length : (c l : ℕ) → 0 < l → l ≤ length rs → ((k : ℕ) → k < l → slot_byte rs k (column d p) ≡ c)
        → (l < length rs → slot_byte rs l (column d p) ≡ c → ⊥) → r ≡ l
    run_length c l s h f g = go (ltb r l) refl (ltb l r) refl
      where
        own : slot_byte rs 0 (column d p) ≡ c
        own = f 0 s

        go : (a : Bool) → ltb r l ≡ a → (b : Bool) → ltb l r ≡ b → r ≡ l
        go true e b q = let z = ltb-true r l e in absurd (w.ends (omega arith) (f r z ∙ sym own))
        go false e true q = let z = ltb-true l r q in absurd (g (omega (arith, w.most)) (w.alike l z ∙ own))
        go false e false q =
            let z = ltb-false r l e in
            let y = ltb-false l r q in
            omega arith

    pub first_part : {b : ℕ} {left : List (List Key)} → Partition d p (From p) b left → map slot_key rs ≡ flat left → Taken d p rs r left
    unfolding flat
    first_part done e = absurd (omega (arith, w.some, w.most, length-map rs slot_key, ap length e))
    first_part (part {x = x} {xs = xs} {ps = ps} c h l a q) e =
        let n : ℕ = length (x ∷ xs) in
        let many : length rs ≡ n + length (flat ps) = sym (length-map rs slot_key) ∙ ap length e ∙ length-append (x ∷ xs) (flat ps) in
        let mine : map slot_key (take n rs) ≡ x ∷ xs = sym (map_take n rs) ∙ ap (take n) e ∙ take_at (x ∷ xs) (flat ps) n refl in
        let behind : drop n (map slot_key rs) ≡ flat ps = ap (drop n) e ∙ drop_at (x ∷ xs) (flat ps) n refl in
        let bytes : (k : ℕ) → k < n → slot_byte rs k (column d p) ≡ c =
        λ k v.
        let same = get_or-take n rs k [] v in
        own_byte c k l
        (rw same at (keys_all (take n rs) (rw (← mine) at (all_imp (λ y z. z.1) a)) k (omega (arith, length-map (take n rs) slot_key, ap length mine)))) in
        let z : r ≡ n = run_length c n (omega arith) (omega arith) bytes (next c n behind q) in
        record {
          rest = ps;
          is = ap (λ (y : List Key). y ∷ ps) (sym (ap (λ (j : ℕ). map slot_key (take j rs)) z ∙ mine));
          after = rw z (sym (map_drop n rs) ∙ behind);
          least = suc c;
          split = q;
          from = rw (z, mine) (part_from d c p inside l a);
        }
      where
        next : (c n : ℕ) {ps : List (List Key)} → drop n (map slot_key rs) ≡ flat ps → Partition d p (From p) (suc c) ps → n < length rs
            → slot_byte rs n (column d p) ≡ c → ⊥
        next c n f done v y = omega (arith, length-drop n (map slot_key rs), length-map rs slot_key, ap length f)
        next c n f (part {x = x'} {xs = xs'} {ps = ps'} c' h' l' a' q') v y =
            let same : slot_key (nth rs n) ≡ x' = map_nth rs n x' (xs' ++ flat ps') f in
            let b : byte d p (slot_key (nth rs n)) ≡ c' = rw same (all_head a').1 in
            omega (arith, own_byte c' n l' b)
