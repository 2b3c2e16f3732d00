-- The first place of a byte, and that of the `/` at which a label ends. Assumes nothing.
use Rattle.std.proofs.Common.{ℕ, ◌+◌, ◌-◌, ◌<◌, ◌≤◌, ◌≡◌, ◌≢◌, ◌∙◌, Bool, true, false, cond, List, [], ◌∷◌, Option, Some, None, length, drop, get_or, nat_eq, ltb, eqb, refl, sym, ap, arith}
use Rattle.std.specs.Option.{unwrap_or}
use Rattle.std.specs.List.{position_or_len}
use Rattle.std.proofs.lemmas.List.Recursion.{is_position_or_len}
use Rattle.std.proofs.lemmas.List.Sums.{position_or_len_is, prefix_len-le-length}
use Rattle.std.proofs.Math.ListN.{length-drop}
use lib.Seq.{get_or-drop}
use borrow.Author.Tests.{ltb-false, ne_eqb}
use Rattle.glob.specs.Bytes.{slash}
use Rattle.glob.proofs.Parts.{back, tail_part}
use Rattle.glob.specs.Labels.{up_to_slash}

-- a place that is not found is the end
pub position_or_end : (p : ℕ → Bool) (s : List ℕ) (r : Option ℕ) → r ≡ cond (ltb (position_or_len p s) (length s)) (Some (position_or_len p s)) None → unwrap_or r (length s) ≡ position_or_len p s
position_or_end p s r e = ap (λ o. unwrap_or o (length s)) e ∙ go (ltb (position_or_len p s) (length s)) refl
  where
    go : (b : Bool) → ltb (position_or_len p s) (length s) ≡ b → unwrap_or (cond b (Some (position_or_len p s)) None) (length s) ≡ position_or_len p s
    go true h = refl
    go false h = omega (arith, ltb-false _ _ h, prefix_len-le-length {X = ℕ})

-- a label ends at the first `/`
pub up_position : (s : List ℕ) → position_or_len (λ b. nat_eq b slash) s ≡ length (up_to_slash s)
up_position s = sym (is_position_or_len (λ t. length (up_to_slash t)) (λ b. nat_eq b slash) refl step s)
  where
    step : (c : ℕ) (t : List ℕ) → length (up_to_slash (c ∷ t)) ≡ cond (nat_eq c slash) 0 (1 + length (up_to_slash t))
    step c t = go (eqb c slash)
      where
        go : (b : Bool) → length (cond b [] (c ∷ up_to_slash t)) ≡ cond b 0 (1 + length (up_to_slash t))
        go true = refl
        go false = omega arith

-- from n on there is none
pub up_all : (s : List ℕ) (n : ℕ) → n ≤ length s → ((k : ℕ) → n ≤ k → k < length s → get_or s k 0 ≢ slash) → n + length (up_to_slash (drop n s)) ≡ length s
up_all s n l f =
    let e = sym (up_position (drop n s)) ∙ position_or_len_is (λ b. nat_eq b slash) (drop n s) (length s - n) 0 (omega (arith, length-drop {A = ℕ})) (λ k h. ne_eqb _ _ (λ e. f (n + k) (omega arith) (omega arith) (sym (get_or-drop n s k 0) ∙ e))) (λ h. absurd (omega (arith, length-drop {A = ℕ}))) in
    omega arith

-- the first `/` of what is left from a place on
pub up_from : (s : List ℕ) (from r : ℕ) → r ≡ position_or_len (λ b. nat_eq b slash) (back s from) → r ≡ length (up_to_slash (drop from s))
up_from s from r e = e ∙ up_position (back s from) ∙ ap (λ t. length (up_to_slash t)) (tail_part from s)
