-- The recursion of a partitioning sequence, without a bound on its length: a part has fewer keys than its set.
use Prim.Native.Nat.{ℕ, zero, suc, ◌≤◌, ◌<◌}
use mathlib.Core.Path.{◌≡◌, refl, sym, ap, ◌∙◌}
use mathlib.Core.Bool.{Bool, true, false, cond}
use mathlib.Core.Option.{Option, none, some}
use mathlib.Core.List.{List, [], ◌∷◌}
use native.Mathlib.Omega.{arith}
use lib.ListN.{length}
use lib.Dec.{eqb}
use borrow.Author.Tests.{eqb-true}
use Rattle.trie_theory.specs.Forest.{Key}
use Rattle.buffer.specs.Lists.{All, nil, cons, pick}
use Rattle.trie_theory.specs.Dimensions.{Above, below}
use Rattle.trie_theory.specs.Position.{shared, byte, differ}
use Rattle.trie_theory.specs.Parts.{keep}
use Rattle.trie_theory.specs.Level.{choice}
use Rattle.trie_theory.specs.Walk.{Step, step_at, kind_of, follow, sequence, route}
use Rattle.buffer.proofs.Lists.{all_imp}
use Rattle.trie_theory.proofs.Differ.{differ_apart}
use Rattle.trie_theory.proofs.LevelStep.{choice_differ, choice_empty}

-- no more are picked than there are, and where all are picked all pass
pick_most : (t : Key → Bool) (xs : List Key)
    → (length (pick t xs) ≤ length xs) × (length xs ≤ length (pick t xs) → All (λ x. t x ≡ true) xs)
unfolding pick
pick_most t [] = (omega arith, λ h. nil)
pick_most t (x ∷ xs) = go (t x) refl (pick_most t xs)
  where
    go : (w : Bool) → t x ≡ w → (length (pick t xs) ≤ length xs) × (length xs ≤ length (pick t xs) → All (λ x. t x ≡ true) xs)
        → (length (cond w (x ∷ pick t xs) (pick t xs)) ≤ suc (length xs))
        × (suc (length xs) ≤ length (cond w (x ∷ pick t xs) (pick t xs)) → All (λ x. t x ≡ true) (x ∷ xs))
    go true e r = (omega (arith, r.0), λ l. cons e (r.1 (omega arith)))
    go false e r = (omega (arith, r.0), λ l. absurd (omega (arith, r.0)))

-- a part has fewer keys than all have
keep_fewer : (d c : ℕ) (x : Key) (xs : List Key) → differ d (x ∷ xs) ≡ true
    → length (keep d (shared (x ∷ xs)) c (x ∷ xs)) < length (x ∷ xs)
unfolding keep
keep_fewer d c x xs e =
    let t : Key → Bool = λ y. eqb (byte d (shared (x ∷ xs)) y) c in
    let r = pick_most t (x ∷ xs) in
    fewer r.0 (λ l. differ_apart d c x xs e (all_imp (λ y q. eqb-true (byte d (shared (x ∷ xs)) y) c q) (r.1 l)))
  where
    fewer : {a b : ℕ} → a ≤ b → (b ≤ a → ⊥) → a < b
    fewer l n = omega arith

module _ (n τ : ℕ) (x : Key) where
  sequence_empty : (f : ℕ) (above : Above) → sequence n τ f above [] x ≡ step_at (shared []) 0 0 ∷ []
  unfolding sequence kind_of follow
  sequence_empty zero above = refl
  sequence_empty (suc f) above = rw (choice_empty n τ above)

  -- what comes below a set is the same where it is the same for the part of x
  below_same : (above : Above) (ks : List Key) (g h : ℕ → List Step) → ((d : ℕ) → choice n τ above ks ≡ some d → g d ≡ h d)
      → follow (choice n τ above ks) g ≡ follow (choice n τ above ks) h
  unfolding follow
  below_same above ks g h e = go (choice n τ above ks) e
    where
      go : (o : Option ℕ) → ((d : ℕ) → o ≡ some d → g d ≡ h d) → follow o g ≡ follow o h
      go none e = refl
      go (some d) e = e d refl

  -- the bound is never met
  sequence_same : (f g : ℕ) (above : Above) (ks : List Key) → length ks ≤ f → length ks ≤ g
      → sequence n τ f above ks x ≡ sequence n τ g above ks x
  unfolding sequence
  sequence_same zero g above [] l m = sequence_empty zero above ∙ sym (sequence_empty g above)
  sequence_same zero g above (y ∷ ys) l m = absurd (omega arith)
  sequence_same (suc f) g above [] l m = sequence_empty (suc f) above ∙ sym (sequence_empty g above)
  sequence_same (suc f) zero above (y ∷ ys) l m = absurd (omega arith)
  sequence_same (suc f) (suc g) above (y ∷ ys) l m =
      let ks : List Key = y ∷ ys in
      let p = shared ks in
      ap (λ (r : List Step). step_at p (length ks) (kind_of (choice n τ above ks)) ∷ r)
      (below_same above ks _ _
      (λ d e. let s = keep_fewer d (byte d p x) y ys (choice_differ n τ above ks d e) in
      sequence_same f g (below d) (keep d p (byte d p x) ks) (omega arith) (omega arith)))

  -- THE STEP: the set of x, then the part of it that has the byte of x, the next dimension wanted
  pub route_step : (above : Above) (ks : List Key)
      → route n τ above ks x
      ≡ step_at (shared ks) (length ks) (kind_of (choice n τ above ks))
      ∷ follow (choice n τ above ks) (λ d. route n τ (below d) (keep d (shared ks) (byte d (shared ks) x) ks) x)
  unfolding route sequence kind_of follow
  route_step above [] = rw (choice_empty n τ above)
  route_step above (y ∷ ys) =
      let ks : List Key = y ∷ ys in
      let p = shared ks in
      ap (λ (r : List Step). step_at p (length ks) (kind_of (choice n τ above ks)) ∷ r)
      (below_same above ks _ _
      (λ d e. let s = keep_fewer d (byte d p x) y ys (choice_differ n τ above ks d e) in
      sequence_same (length ys) (length (keep d p (byte d p x) ks)) (below d) (keep d p (byte d p x) ks) (omega arith) (omega arith)))
