-- What a position and `differ` mean: before the discriminative position all keys agree, at it two differ, and it is one past
-- the end where all are equal. For keys of entries, to differ is not to be all equal.
use Prim.Native.Nat.{ℕ, zero, suc, ◌+◌, ◌≤◌, ◌<◌}
use mathlib.Core.Path.{◌≡◌, refl, sym, ap, ap₂, ◌∙◌}
use mathlib.Core.Bool.{Bool, true, false, ◌&&◌, true≢false}
use mathlib.Core.List.{List, [], ◌∷◌, ◌++◌, append-nil}
use native.Mathlib.Omega.{arith}
use lib.ListN.{length, drop}
use lib.Dec.{ltb}
use borrow.Author.Tests.{ltb-false, eq-eqb}
use Rattle.buffer.specs.Lists.{all, All, nil, cons}
use Rattle.trie_theory.specs.Forest.{Strings, Key}
use Rattle.trie_theory.specs.Strings.{common, strip, at, first}
use Rattle.trie_theory.specs.Position.{narrow, shared, position, byte, differ}
use Rattle.trie_theory.specs.Entries.{OfEntry}
use Rattle.buffer.proofs.Lists.{In, at_head, later, all_head, all_tail, all_imp, all_both, all_in}
use Rattle.trie_theory.proofs.Prefix.{Prefix, shared_all, prefixes_at, prefix_trans}
use Rattle.trie_theory.proofs.Strings.{drop_prefix, at_strip, first_at}
use Rattle.trie_theory.proofs.Parts.{differ_all, differ_inside, part_first, first_self}
use Rattle.trie_theory.proofs.Free.{Free, commons_at}
use Rattle.trie_theory.proofs.Complete.{dims_stop, complete_free}

-- BEFORE THE POSITION all keys agree
pub position_agree : (d : ℕ) (ks : List Key) → All (λ x. Prefix (at d (shared ks)) (at d x.strings)) ks
position_agree d ks = all_imp (λ x h. prefixes_at d (shared ks) x.strings h) (shared_all ks)

-- AT IT, where they differ, no byte is the byte of all
pub differ_apart : (d c : ℕ) (x : Key) (xs : List Key) → differ d (x ∷ xs) ≡ true
    → All (λ y. byte d (shared (x ∷ xs)) y ≡ c) (x ∷ xs) → ⊥
differ_apart d c x xs e a =
    let p = shared (x ∷ xs) in
    let l = all_head (differ_all d (x ∷ xs) e) in
    let m = all_head a in
    let q = part_first d c p (differ_inside d x xs e) (omega arith) (all_both (shared_all (x ∷ xs)) a) in
    omega (arith, first_self d p)

-- the byte behind a prefix is a matter of one dimension
pub byte_at : (d : ℕ) (p : Strings) (x : Key) → byte d p x ≡ first zero (drop (length (at d p)) (at d x.strings) ∷ [])
unfolding byte
byte_at d p x = first_at d (strip p x.strings) ∙ ap (λ (l : List ℕ). first zero (l ∷ [])) (at_strip d p x.strings)

-- KEYS THAT DIFFER are not all equal there
pub differ_true : (d : ℕ) (x : Key) (xs : List Key) → differ d (x ∷ xs) ≡ true
    → All (λ y. at d y.strings ≡ at d x.strings) (x ∷ xs) → ⊥
differ_true d x xs e a =
    let p = shared (x ∷ xs) in
    differ_apart d (byte d p x) x xs e
    (all_imp (λ y q. byte_at d p y ∙ ap (λ (s : List ℕ). first zero (drop (length (at d p)) s ∷ [])) q ∙ sym (byte_at d p x)) a)

-- where a test is not passed by all, one fails
fails : {A : Type 0} (t : A → Bool) (xs : List A) → all t xs ≡ false → (x : A) × In x xs × (t x ≡ false)
fails t [] e = absurd (true≢false e)
fails t (x ∷ xs) e = go (t x) refl e (fails t xs)
  where
    go : (b : Bool) → t x ≡ b → (b && all t xs) ≡ false → (all t xs ≡ false → (y : _) × In y xs × (t y ≡ false))
        → (y : _) × In y (x ∷ xs) × (t y ≡ false)
    go true h e r = let q = r e in (q.0, later q.1, q.2)
    go false h e r = (x, at_head, h)

-- where a string of bytes has none behind a prefix, it is that prefix
ends : (p s : List ℕ) → Prefix p s → All (λ b. b < 256) s → 256 ≤ first zero (drop (length p) s ∷ []) → Prefix s p
unfolding Prefix first
ends p [] h b l = tt
ends [] (c ∷ s) h b l = absurd (let m = all_head b in omega arith)
ends (a ∷ p) (c ∷ s) h b l = (sym h.0, ends p s h.1 (all_tail b) l)

-- KEYS THAT DO NOT DIFFER, free of one another, are all equal there
pub differ_false : (d : ℕ) (ks : List Key) → ((y z : Key) → In y ks → In z ks → Free y z)
    → All (λ x. All (λ b. b < 256) (at d x.strings)) ks
    → differ d ks ≡ false → (y z : Key) → In y ks → In z ks → at d y.strings ≡ at d z.strings
unfolding differ Free
differ_false d ks free b e y z i j =
    let p = shared ks in
    let t = fails (λ x. ltb (byte d p x) 256) ks e in
    let u : Key = t.0 in
    let l : 256 ≤ byte d p u = ltb-false (byte d p u) 256 t.2 in
    let q : Prefix (at d u.strings) (at d p) =
    ends (at d p) (at d u.strings) (all_in (position_agree d ks) t.1) (all_in b t.1) (rw (byte_at d p u) at l) in
    let same : (v : Key) → In v ks → at d u.strings ≡ at d v.strings = λ v k.
    let rest = drop (length (at d u.strings)) (at d v.strings) in
    let whole = drop_prefix (at d u.strings) (at d v.strings)
    (prefix_trans (at d u.strings) (at d p) (at d v.strings) q (all_in (position_agree d ks) k)) in
    sym (append-nil (at d u.strings))
    ∙ ap (λ (r : List ℕ). at d u.strings ++ r) (sym (free u v t.1 k d rest (sym whole))) ∙ whole in
    sym (same y i) ∙ same z j

bytes_at : (d : ℕ) {s : Strings} → All (All (λ b. b < 256)) s → All (λ b. b < 256) (at d s)
bytes_at d nil = nil
bytes_at zero (cons h a) = h
bytes_at (suc d) (cons h a) = bytes_at d a

-- so for entries
pub entries_equal : (d : ℕ) (ks : List Key) → All OfEntry ks → differ d ks ≡ false → (y z : Key) → In y ks → In z ks
    → at d y.strings ≡ at d z.strings
entries_equal d ks a =
    differ_false d ks (λ y z i j. complete_free dims_stop y z (all_in a i).whole (all_in a j).whole)
    (all_imp (λ x e. bytes_at d e.bytes) a)

common_self : (s : List ℕ) → common s s ≡ s
unfolding common
common_self [] = refl
common_self (a ∷ s) = rw (eq-eqb a a refl) (ap (λ (l : List ℕ). a ∷ l) (common_self s))

-- FOR KEYS ALL EQUAL the position is one past the end
pub position_equal : (d : ℕ) (x : Key) (xs : List Key) → All (λ y. at d y.strings ≡ at d x.strings) xs
    → position d (x ∷ xs) ≡ length (at d x.strings) + 1
unfolding position shared narrow
position_equal d x xs a = ap (λ (s : List ℕ). length s + 1) (go a)
  where
    go : {ys : List Key} → All (λ y. at d y.strings ≡ at d x.strings) ys → at d (narrow x.strings ys) ≡ at d x.strings
    go nil = refl
    go (cons {x = y} {xs = ys} e r) =
        commons_at d y.strings (narrow x.strings ys) ∙ ap₂ common e (go r) ∙ common_self (at d x.strings)
