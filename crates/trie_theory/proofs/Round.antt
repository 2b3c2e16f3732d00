-- The round of the dimensions comes to every one: what it finds passes the test, and where it finds nothing no dimension does.
-- So it is for levels (keys that differ) and for the small trie (a node with bytes left) alike.
use Prim.Native.Nat.{ℕ, zero, suc, ◌+◌, ◌-◌, ◌<◌}
use mathlib.Core.Path.{◌≡◌, refl, sym, ap, ◌∙◌}
use mathlib.Core.Bool.{Bool, true, false, cond}
use mathlib.Core.Option.{Option, none, some}
use native.Mathlib.Omega.{arith}
use lib.ListN.{length}
use lib.Dec.{eqb, ltb}
use borrow.Author.Tests.{ltb-true, ltb-false, eqb-false, eq-eqb, ne_eqb}
use Rattle.trie_theory.specs.Forest.{Strings}
use Rattle.trie_theory.specs.Dimensions.{Above, root, below, next, wanted, seek, turn}
use Rattle.trie_theory.specs.Sound.{Starts}
use Rattle.trie_theory.proofs.Strings.{at_inside}

pub some_same : (d e : ℕ) → ◌≡◌ {A = Option ℕ} (some d) (some e) → d ≡ e
some_same d e h = cc

pub not_some : (e : ℕ) → ◌≡◌ {A = Option ℕ} none (some e) → ⊥
not_some e h = let z : ◌≡◌ {A = ℕ} 0 1 = cc in omega arith

-- the round goes up by one, and from the last to the first
next_up : (n d : ℕ) → suc d < n → next n d ≡ suc d
unfolding next
next_up n d l = rw (ne_eqb (suc d) n (λ e. omega arith))

next_last : (n d : ℕ) → suc d ≡ n → next n d ≡ 0
unfolding next
next_last n d e = rw (eq-eqb (suc d) n e)

pub next_inside : (n d : ℕ) → d < n → next n d < n
unfolding next
next_inside n d l = go (eqb (suc d) n) refl
  where
    go : (t : Bool) → eqb (suc d) n ≡ t → cond t 0 (suc d) < n
    go true e = omega arith
    go false e = let q = eqb-false (suc d) n e in omega arith

-- within f steps of the round from d, e is come to
data Visits (n : ℕ) : ℕ → ℕ → ℕ → Type 0 where
  here : {f d e : ℕ} → e ≡ d → Visits n (suc f) d e
  onward : {f d e : ℕ} (d' : ℕ) → next n d ≡ d' → Visits n f d' e → Visits n (suc f) d e

upward : (n f i d e : ℕ) → e ≡ d + i → e < n → i < f → Visits n f d e
upward n zero i d e q l m = absurd (omega arith)
upward n (suc f) zero d e q l m = here {d = d} {e = e} (omega arith)
upward n (suc f) (suc i) d e q l m = onward (suc d) (next_up n d (omega arith)) (upward n f i (suc d) e (omega arith) l (omega arith))

around : (n f i d e : ℕ) → suc (d + i) ≡ n → e < n → suc (i + e) < f → Visits n f d e
around n zero i d e q l m = absurd (omega arith)
around n (suc f) zero d e q l m = onward 0 (next_last n d (omega arith)) (upward n f e 0 e (omega arith) l (omega arith))
around n (suc f) (suc i) d e q l m = onward (suc d) (next_up n d (omega arith)) (around n f i (suc d) e (omega arith) l (omega arith))

-- the whole round comes to every dimension
round : (n d e : ℕ) → d < n → e < n → Visits n n d e
round n d e l m = go (ltb e d) refl
  where
    go : (t : Bool) → ltb e d ≡ t → Visits n n d e
    go true q = let h = ltb-true e d q in around n n (n - suc d) d e (omega arith) m (omega arith)
    go false q = let h = ltb-false e d q in upward n n (e - d) d e (omega arith) m (omega arith)

module _ (t : ℕ → Bool) (n : ℕ) where
  seek_passes : (f d e : ℕ) → seek t n f d ≡ some e → t e ≡ true
  unfolding seek
  seek_passes zero d e h = absurd (not_some e h)
  seek_passes (suc f) d e h = go (t d) refl h (seek_passes f (next n d) e)
    where
      go : (w : Bool) → t d ≡ w → cond w (some d) (seek t n f (next n d)) ≡ some e → (seek t n f (next n d) ≡ some e → t e ≡ true)
          → t e ≡ true
      go true q h r = ap t (sym (some_same d e h)) ∙ q
      go false q h r = r h

  seek_inside : (f d e : ℕ) → d < n → seek t n f d ≡ some e → e < n
  unfolding seek
  seek_inside zero d e l h = absurd (not_some e h)
  seek_inside (suc f) d e l h = go (t d) h (seek_inside f (next n d) e (next_inside n d l))
    where
      go : (w : Bool) → cond w (some d) (seek t n f (next n d)) ≡ some e → (seek t n f (next n d) ≡ some e → e < n) → e < n
      go true q r = let s = some_same d e q in omega arith
      go false q r = r q

  seek_none : {f d e : ℕ} → Visits n f d e → seek t n f d ≡ none → t e ≡ false
  unfolding seek
  seek_none (here {f = f} {d = d} {e = e} q) h = go (t d) refl h
    where
      go : (w : Bool) → t d ≡ w → cond w (some d) (seek t n f (next n d)) ≡ none → t e ≡ false
      go true s r = absurd (not_some d (sym r))
      go false s r = ap t q ∙ s
  seek_none (onward {f = f} {d = d} {e = e} d' q v) h = go (t d) h (seek_none v)
    where
      go : (w : Bool) → cond w (some d) (seek t n f (next n d)) ≡ none → (seek t n f d' ≡ none → t e ≡ false) → t e ≡ false
      go true r ih = absurd (not_some d (sym r))
      go false r ih = ih (ap (λ (i : ℕ). seek t n f i) (sym q) ∙ r)

  -- THE DIMENSION FOUND passes the test ..
  pub turn_passes : (above : Above) (d : ℕ) → turn t n above ≡ some d → t d ≡ true
  unfolding turn
  turn_passes above d h = seek_passes n (wanted n above) d h

  -- .. and where none is found, none does
  pub turn_none : (above : Above) → wanted n above < n → turn t n above ≡ none → (d : ℕ) → d < n → t d ≡ false
  unfolding turn
  turn_none above l h d m = seek_none (round n (wanted n above) d l m) h

-- the dimension found is one of the n
pub turn_inside : (t : ℕ → Bool) (n : ℕ) (above : Above) (d : ℕ) → wanted n above < n → turn t n above ≡ some d → d < n
unfolding turn
turn_inside t n above d l h = seek_inside t n n (wanted n above) d l h

-- the wanted dimension is one of those of a node's strings
pub wanted_inside : (n : ℕ) (above : Above) (s : Strings) → length s ≡ n → 0 < n → Starts above s → wanted n above < n
unfolding wanted Starts
wanted_inside n root s e l h = l
wanted_inside n (below d) s e l h = next_inside n d (let i = at_inside d s h in omega arith)
