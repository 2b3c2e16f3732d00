-- A path matches a pattern. Assumes nothing: this is a definition.
use Rattle.std.specs.Prelude.{ℕ, List, Bool, ◌&&◌}
use Rattle.matcher.specs.Fit.{fits_path}
use Rattle.matcher.specs.Form.{path_form, pattern_form, is_fine}

-- both are formed, lengths included, and the path fits
unfoldable pub matches : List ℕ → List ℕ → Bool
matches pattern path = is_fine (pattern_form pattern) && (is_fine (path_form path) && fits_path pattern path)
