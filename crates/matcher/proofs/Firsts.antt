-- The first bytes of a path and its end byte: the last of them tells whether they are all, `is_first` decides that they are such bytes, and fewer of them
-- are such bytes too. Assumes nothing.
use mathlib.Core.Path.{◌≡◌, refl, sym, ap, ap₂, ◌∙◌}
use mathlib.Core.List.{List, [], ◌∷◌, ◌++◌, append_assoc, append-nil}
use mathlib.Core.Bool.{Bool, true, false, not, cond}
use Prim.Native.Nat.{ℕ, suc, ◌-◌, ◌≤◌}
use native.Mathlib.Omega.{arith}
use lib.ListN.{length, take, drop_of_length-le}
use lib.Seq.{split_at}
use borrow.Author.Tests.{eq-eqb, eqb-true}
use Rattle.buffer.specs.Lists.{none}
use Rattle.buffer.proofs.Tests.{not_both, and_both}
use Rattle.glob.proofs.Parts.{last_place}
use Rattle.matcher.specs.Bytes.{end_byte}
use Rattle.matcher.specs.Form.{formed_path}
use Rattle.matcher.specs.Continued.{ended, FirstBytes}
use Rattle.matcher.specs.Reach.{begins_path, is_first}
use Rattle.matcher.proofs.Apart.{last_byte}
use Rattle.matcher.proofs.Prefixes.{begins_of, opened, last_of, before_last, closed_path, open_path}

-- bytes with the end byte last, and others
ended_last_lem : (known : List ℕ) → ended known ≡ true → (length known ≡ 0 → ⊥) × (last_byte known ≡ end_byte)
ended_last_lem [] e = not_both e refl
ended_last_lem (c ∷ k) e = ((λ z. absurd (omega arith)), eqb-true (last_byte (c ∷ k)) end_byte e)

pub ended_whole : (path : List ℕ) → ended (path ++ (end_byte ∷ [])) ≡ true
ended_whole path = and_both (some path) (eq-eqb (last_byte (path ++ (end_byte ∷ []))) end_byte (last_of path end_byte))
  where
    some : (s : List ℕ) → not (none (s ++ (end_byte ∷ []))) ≡ true
    some [] = refl
    some (c ∷ s) = refl

pub last_split : (known : List ℕ) → ended known ≡ true → known ≡ take (length known - 1) known ++ (end_byte ∷ [])
last_split known e =
    let l = ended_last_lem known e in
    let n = length known - 1 in
    split_at known n 0 (last_place (length known) l.0) ∙ ap₂ (λ (x : ℕ) (t : List ℕ). take n known ++ (x ∷ t)) l.1 (drop_of_length-le known (above (length known)))
  where
    above : (n : ℕ) → n ≤ suc (n - 1)
    above n = omega arith

-- ---- fewer bytes, and all

pub first_before : (a b : List ℕ) → FirstBytes (a ++ b) → FirstBytes a
first_before a b f = record { path = f.path; is_path = f.is_path; more = b ++ f.more; goes_on = sym (append_assoc a b f.more) ∙ f.goes_on }

pub first_whole : (path : List ℕ) → formed_path path ≡ true → FirstBytes (path ++ (end_byte ∷ []))
first_whole path e = record { path = path; is_path = e; more = []; goes_on = append-nil (path ++ (end_byte ∷ [])) }

-- ---- the test

module _ (known : List ℕ) (f : FirstBytes known) where
  -- with the end byte the bytes before it are the path, else the path goes on
  pub whole_path : ended known ≡ true → take (length known - 1) known ≡ f.path
  whole_path e =
      let l = ended_last_lem known e in
      ap (λ (k : List ℕ). take (length k - 1) k) (closed_path known f.path f.more f.is_path f.goes_on l.0 l.1) ∙ before_last f.path end_byte

  pub longer_path : ended known ≡ false → (n : List ℕ) × (known ++ n ≡ f.path)
  longer_path e = open_path known f.path f.more f.is_path f.goes_on (λ z. not_both (ap ended z ∙ ended_whole f.path) e)

  -- THE TEST HOLDS OF THEM
  pub first_tested : is_first known ≡ true
  first_tested = go (ended known) refl
    where
      go : (d : Bool) → ended known ≡ d → cond d (formed_path (take (length known - 1) known)) (begins_path known) ≡ true
      go true e = ap formed_path (whole_path e) ∙ f.is_path
      go false e = let n = longer_path e in begins_of known n.0 f.path n.1 f.is_path

-- and of no others
pub tested_first : (known : List ℕ) → is_first known ≡ true → FirstBytes known
tested_first known h = go (ended known) refl
  where
    go : (d : Bool) → ended known ≡ d → FirstBytes known
    go true e = record { path = take (length known - 1) known; is_path = rw e at h; more = []; goes_on = append-nil known ∙ last_split known e }
    go false e =
        let o = opened known (rw e at h) in
        record {
          path = o.path;
          is_path = o.is_path;
          more = o.more ++ (end_byte ∷ []);
          goes_on = sym (append_assoc known o.more (end_byte ∷ [])) ∙ ap (λ (s : List ℕ). s ++ (end_byte ∷ [])) o.goes_on;
        }
