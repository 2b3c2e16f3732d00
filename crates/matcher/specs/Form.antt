-- How paths and patterns are formed, and the numbers of the reasons for which they are turned down. Assumes nothing: these are definitions.
use Rattle.std.specs.Prelude.{ℕ, List, [], ◌∷◌, Bool, true, not, cond, ◌&&◌, ◌||◌, length, get_or, eqb, ltb, Result, Ok, Err, is_ok, ⊤}
use Rattle.buffer.specs.Lists.{none, all}
use Rattle.matcher.specs.Bytes.{slash, star, path_limit, pattern_label_limit, label_byte}
use Rattle.matcher.specs.Labels.{labels_of, deep}
use Rattle.matcher.specs.declared.form.FormError.{FormError}
use Rattle.matcher.specs.declared.form.FormError.TheVariants.{TooLong, Malformed}

-- label bytes and the byte m, of which no two stand together
abbrev pub apart : ℕ → List ℕ → Bool
apart m [] = true
apart m (c ∷ s) = cond (eqb c m) (not (eqb (get_or s 0 0) m)) (label_byte c) && apart m s

-- a label of a path: at least one byte
abbrev pub path_label : List ℕ → Bool
path_label l = not (none l) && all label_byte l

-- a label of a pattern: at least one byte, of label bytes and `*`; two stars stand together only as the whole label `**`
abbrev pub pattern_label : List ℕ → Bool
pattern_label l = not (none l) && (deep l || apart star l)

-- one or more labels, each begun by `/`
abbrev pub labelled : (List ℕ → Bool) → List ℕ → Bool
labelled label s = eqb (get_or s 0 0) slash && all label (labels_of s)

-- a path, of any length, and a pattern, of any length and number of labels
abbrev pub formed_path : List ℕ → Bool
formed_path = labelled path_label

abbrev pub formed_pattern : List ℕ → Bool
formed_pattern = labelled pattern_label

-- over 200 bytes
abbrev pub too_long : List ℕ → Bool
too_long s = ltb path_limit (length s)

-- over 32 `/`: each begins a label
abbrev pub too_many : List ℕ → Bool
too_many s = ltb pattern_label_limit (length (labels_of s))

-- how a path or a pattern is formed: it is fine, or turned down for a reason
abbrev pub Form : Type 0
Form = Result ⊤ FormError

-- length is tested before form
unfoldable pub path_form : List ℕ → Form
path_form s = cond (too_long s) (Err TooLong) (cond (formed_path s) (Ok tt) (Err Malformed))

unfoldable pub pattern_form : List ℕ → Form
pattern_form s = cond (too_long s || too_many s) (Err TooLong) (cond (formed_pattern s) (Ok tt) (Err Malformed))

-- the number of document 01 for each form of a path
abbrev pub path_number : Form → ℕ
path_number (Ok fine) = 0
path_number (Err TooLong) = 2
path_number (Err Malformed) = 1

-- the number of document 01 for each form of a pattern
abbrev pub pattern_number : Form → ℕ
pattern_number (Ok fine) = 0
pattern_number (Err TooLong) = 8
pattern_number (Err Malformed) = 7

abbrev pub is_fine : Form → Bool
is_fine f = is_ok f
