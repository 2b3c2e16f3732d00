-- What `begins_labels` says where a pattern begins with `**`. No proof cites it: docs/DECISIONS.md names it. Assumes nothing.
use mathlib.Core.Path.{◌≡◌, refl}
use mathlib.Core.List.{List, [], ◌∷◌}
use mathlib.Core.Bool.{true}
use Prim.Native.Nat.{ℕ}
use Rattle.glob.specs.Labels.{deep}
use Rattle.glob.specs.Begins.{begins_labels}

-- a first `**` takes all
pub deep_begins : (p : List ℕ) (ps ks : List (List ℕ)) → deep p ≡ true → begins_labels (p ∷ ps) ks ≡ true
deep_begins p ps [] e = refl
deep_begins p ps (k ∷ ks) e = rw e
