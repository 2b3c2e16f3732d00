-- Known bytes of a path that can be continued to one that fits, and what an answer about them means. Assumes nothing: these are definitions.
use Rattle.std.specs.Prelude.{ℕ, ◌-◌, ◌≡◌, List, [], ◌∷◌, ◌++◌, Bool, true, false, not, ◌&&◌, length, get_or, eqb}
use Rattle.buffer.specs.Lists.{none}
use Rattle.matcher.specs.Bytes.{end_byte}
use Rattle.matcher.specs.Fit.{fits_path}
use Rattle.matcher.specs.Form.{formed_path, pattern_form, is_fine}
use Rattle.matcher.specs.declared.reach.Answer.{Answer}
use Rattle.matcher.specs.declared.reach.Answer.TheVariants.{Match, Mismatch, Incomplete}

-- the bytes known are the first of a formed path, of any length, with its end byte
pub record FirstBytes (known : List ℕ) : Type 0 where
  pub path : List ℕ
  pub is_path : formed_path path ≡ true
  pub more : List ℕ
  pub goes_on : known ++ more ≡ path ++ (end_byte ∷ [])

-- the bytes known can be continued to a path that fits the pattern, which is formed
pub record Continued (pattern known : List ℕ) : Type 0 where
  pub is_pattern : is_fine (pattern_form pattern) ≡ true
  pub first : FirstBytes known
  pub fits : fits_path pattern first.path ≡ true

-- the last byte known is the end byte
abbrev pub ended : List ℕ → Bool
ended known = not (none known) && eqb (get_or known (length known - 1) 0) end_byte

-- match: a path that matches is known whole. Incomplete: the end byte is not known yet, and some path matches. Mismatch: none does
abbrev pub Told : List ℕ → List ℕ → Answer → Type 0
Told pattern known Match = (C : Continued pattern known) × (known ≡ C.first.path ++ (end_byte ∷ []))
Told pattern known Incomplete = Continued pattern known × (ended known ≡ false)
Told pattern known Mismatch = Continued pattern known → ⊥
