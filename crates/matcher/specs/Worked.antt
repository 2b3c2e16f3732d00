-- Worked cases of document 01, P5 to P10 and the one on `**` of "Where a reader of the paper goes astray", as a table with one theorem; and
-- where bytes can just be continued, or just not.
-- Assumes nothing.
use Rattle.std.specs.Prelude.{◌≡◌, refl, List, [], ◌∷◌, ◌++◌, map, Bool, true, false, ℕ, replicate}
use Rattle.buffer.specs.Text.{text}
use Rattle.matcher.specs.Bytes.{end_byte, label_byte}
use Rattle.matcher.specs.Form.{path_form, pattern_form}
use Rattle.matcher.specs.Fit.{fit}
use Rattle.matcher.specs.Matches.{matches}
use Rattle.matcher.specs.Reach.{reach_of, goes_on}

-- a pattern with a path, which matches or does not, or with known bytes, which can be continued or cannot
pub data Case : Type 0 where
  path : List ℕ → List ℕ → Case
  known : List ℕ → List ℕ → Case

abbrev pub decided : Case → Bool
decided (path p s) = matches p s
decided (known p k) = goes_on (reach_of p k)

-- P5: `/**/pond*/*.c` fits `/north/pond3/map.c`. P6: not `/north/pond3/sub/map.c`
abbrev pub p5 : Case
p5 = path (text "/**/pond*/*.c") (text "/north/pond3/map.c")

abbrev pub p6 : Case
p6 = path (text "/**/pond*/*.c") (text "/north/pond3/sub/map.c")

-- P7: `/a*a` does not fit `/a`. P8: it fits `/aa`
abbrev pub p7 : Case
p7 = path (text "/a*a") (text "/a")

abbrev pub p8 : Case
p8 = path (text "/a*a") (text "/aa")

-- P9: `/north/**` fits `/north`
abbrev pub p9 : Case
p9 = path (text "/north/**") (text "/north")

-- `/**/a/b` fits `/a/a/b`
abbrev pub astray : Case
astray = path (text "/**/a/b") (text "/a/a/b")

-- P10: `/gs/` cannot be continued for `/fs/*`
abbrev pub p10 : Case
p10 = known (text "/fs/*") (text "/gs/")

pub worked : map decided (p5 ∷ p6 ∷ p7 ∷ p8 ∷ p9 ∷ astray ∷ p10 ∷ []) ≡ true ∷ false ∷ false ∷ true ∷ true ∷ true ∷ false ∷ []
unfolding label_byte fit path_form pattern_form matches reach_of
worked = refl

-- `/` can be continued for `/*`, but `/a/` cannot for `/a` nor for `/a*`: a label has a byte, and `*` takes no `/`
abbrev first_byte : Case
first_byte = known (text "/*") (text "/")

abbrev label_more : Case
label_more = known (text "/a") (text "/a/")

abbrev star_label_more : Case
star_label_more = known (text "/a*") (text "/a/")

-- 200 bytes can be continued for `/a*b`, whose path then has 201: in this rule a path may be of any length
abbrev longer : Case
longer = known (text "/a*b") (text "/" ++ replicate 199 97)

-- with its end byte a path is whole: `/north` cannot be continued for `/**/edge`, though without the end byte it can
abbrev whole : Case
whole = known (text "/**/edge") (text "/north" ++ (end_byte ∷ []))

abbrev begun : Case
begun = known (text "/**/edge") (text "/north")

-- no byte known can be continued; what no path begins with cannot: an empty label, the byte 7F, an end byte inside or behind a `/`
abbrev nothing : Case
nothing = known (text "/*") []

abbrev empty_label : Case
empty_label = known (text "/**") (text "//")

abbrev no_label_byte : Case
no_label_byte = known (text "/**") (text "/" ++ (127 ∷ []))

abbrev ended_inside : Case
ended_inside = known (text "/**") (text "/a" ++ (end_byte ∷ text "b"))

abbrev ended_empty : Case
ended_empty = known (text "/a/*") (text "/a/" ++ (end_byte ∷ []))

pub worked_form : map decided (nothing ∷ empty_label ∷ no_label_byte ∷ ended_inside ∷ ended_empty ∷ []) ≡ true ∷ false ∷ false ∷ false ∷ false ∷ []
unfolding label_byte fit path_form pattern_form matches reach_of
worked_form = refl

pub worked_known : map decided (first_byte ∷ label_more ∷ star_label_more ∷ longer ∷ whole ∷ begun ∷ []) ≡ true ∷ false ∷ false ∷ true ∷ false ∷ true ∷ []
unfolding label_byte fit path_form pattern_form matches reach_of
worked_known = refl
