-- The answer about known bytes as a test that computes. That it says what it means, `Told`, is proved of every pattern and all known
-- bytes (`proofs/Decided.antt`). Assumes nothing: these are definitions.
use Rattle.std.specs.Prelude.{ℕ, ◌-◌, ◌≡◌, List, [], ◌∷◌, ◌++◌, Bool, true, false, cond, ◌&&◌, ◌||◌, length, take, get_or, eqb}
use Rattle.buffer.specs.Lists.{none}
use Rattle.matcher.specs.Bytes.{slash}
use Rattle.matcher.specs.Labels.{labels_of}
use Rattle.matcher.specs.Fit.{fits_path}
use Rattle.matcher.specs.Form.{apart, formed_path, pattern_form, is_fine}
pub use Rattle.glob.specs.Begins.{begins_label, begins_labels}
pub use Rattle.glob_prefix.specs.Prefix.{LiteralPrefix}
use Rattle.matcher.specs.Continued.{ended, Told}
use Rattle.matcher.specs.declared.reach.Answer.{Answer}
use Rattle.matcher.specs.declared.reach.Answer.TheVariants.{Match, Mismatch, Incomplete}

-- bytes that begin a path: `/` first, then label bytes and `/`, of which no two stand together
abbrev pub begins_path : List ℕ → Bool
begins_path known = none known || (eqb (get_or known 0 0) slash && apart slash known)

-- bytes that are the first of a path with its end byte: with that byte the path is whole, without it the path goes on
abbrev pub is_first : List ℕ → Bool
is_first known = cond (ended known) (formed_path (take (length known - 1) known)) (begins_path known)

-- the answer by the labels alone: a whole path matches or does not
abbrev pub reach_labels : List ℕ → List ℕ → Answer
reach_labels pattern known =
    cond (ended known) (cond (fits_path pattern (take (length known - 1) known)) Match Mismatch) (cond (begins_labels (labels_of pattern) (labels_of known)) Incomplete Mismatch)

-- the answer; for a pattern that is not formed, and for bytes that begin no path, it is a mismatch
unfoldable pub reach_of : List ℕ → List ℕ → Answer
reach_of pattern known = cond (is_fine (pattern_form pattern) && is_first known) (reach_labels pattern known) Mismatch

-- the answer is not a mismatch: a child is entered where this holds of the bytes known at its parent with the branching byte added
abbrev pub goes_on : Answer → Bool
goes_on Match = true
goes_on Incomplete = true
goes_on Mismatch = false

-- what `reach` promises of its answer
pub record Reached (pattern known : List ℕ) (r : Answer) : Type 0 where
  pub is : r ≡ reach_of pattern known
  pub told : Told pattern known r

-- what `one_leads` promises of its answer r: where it is yes, no byte but the pattern's leads on from p bytes
pub record OneLeads (pattern : List ℕ) (literal p : ℕ) (r : Bool) : Type 0 where
  pub others : LiteralPrefix pattern literal → r ≡ true → (known : List ℕ) → length known ≡ p → (c : ℕ) → (c ≡ get_or pattern p 0 → ⊥)
      → reach_of pattern (known ++ (c ∷ [])) ≡ Mismatch

-- what `ruled_out` promises of its answer r: bytes s that differ from those with which every path that fits begins, p bytes behind the first, are a mismatch
pub record RuledOut (pattern : List ℕ) (literal p : ℕ) (s : List ℕ) (r : Bool) : Type 0 where
  pub mismatch : LiteralPrefix pattern literal → r ≡ true → (known : List ℕ) → length known ≡ p → reach_of pattern (known ++ s) ≡ Mismatch
