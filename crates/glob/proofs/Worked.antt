-- Worked cases of `fits_path`, by computing. They stand here and not in specs/ so that an edit of the definition is judged by the functions.
use Rattle.std.specs.Prelude.{◌≡◌, refl, [], ◌∷◌, map, true, false}
use Rattle.buffer.specs.Text.{text}
use Rattle.glob.specs.Fit.{fit, fits_path}

-- worked: a `*` takes zero or more bytes inside one label, and so no `/`, also behind `**`. The cases that document 01 numbers are in crate matcher.
pub worked_star : map (fits_path (text "/a*")) (text "/a" ∷ text "/ab" ∷ text "/a/b" ∷ []) ≡ true ∷ true ∷ false ∷ []
unfolding fit
worked_star = refl

pub worked_deep : map (fits_path (text "/**/a*c")) (text "/ac" ∷ text "/north/abc" ∷ text "/north/a/c" ∷ []) ≡ true ∷ true ∷ false ∷ []
unfolding fit
worked_deep = refl
