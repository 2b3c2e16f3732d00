-- Bytes that differ from those with which every path that fits begins are a mismatch. Assumes nothing.
use mathlib.Core.Path.{◌≡◌, refl, sym, ap, ap₂, ◌∙◌}
use mathlib.Core.List.{List, [], ◌∷◌, ◌++◌, append_assoc}
use mathlib.Core.Bool.{Bool, true, false, not}
use Prim.Native.Nat.{ℕ, zero, suc, ◌+◌, ◌-◌, ◌≤◌, ◌<◌}
use native.Mathlib.Omega.{arith}
use lib.ListN.{length, take, drop, get_or, length-take, length-append, take-append-drop}
use lib.Seq.{length-take-le, take-append-le, take-append-add, take-add, take-take, drop_at, drop-cons}
use lib.Dec.{eqb}
use borrow.Author.Tests.{eq-eqb, ne_eqb, eqb-true}
use Rattle.buffer.specs.Lists.{all}
use Rattle.buffer.proofs.Tests.{not_both, and_left, or_left_false, or_right_false}
use Rattle.glob_prefix.specs.Prefix.{LiteralPrefix, differs}
use Rattle.matcher.specs.Bytes.{slash, end_byte}
use Rattle.matcher.specs.Labels.{labels_of}
use Rattle.matcher.specs.Form.{path_label, formed_path, pattern_form, is_fine}
use Rattle.matcher.specs.Continued.{Continued, Told}
use Rattle.matcher.specs.Reach.{reach_of, RuledOut, OneLeads}
use Rattle.matcher.specs.declared.reach.Answer.{Answer}
use Rattle.matcher.specs.declared.reach.Answer.TheVariants.{Match, Mismatch, Incomplete}
use Rattle.matcher.proofs.Apart.{last_byte}
use Rattle.matcher.proofs.Prefixes.{last_of, closed_path}
use Rattle.matcher.proofs.Decided.{told, some_fits}

path_slash : (path : List ℕ) → formed_path path ≡ true → get_or path 0 0 ≡ slash
path_slash path e = eqb-true (get_or path 0 0) slash (and_left (eqb (get_or path 0 0) slash) (all path_label (labels_of path)) e)

-- what begins with all of s does not differ from s
alike : (m : ℕ) (s more : List ℕ) → differs (take m (s ++ more)) s ≡ false
alike zero s more = refl
alike (suc m) [] [] = refl
alike (suc m) [] (y ∷ more) = refl
alike (suc m) (x ∷ s) more = rw (eq-eqb x x refl) (alike m s more)

module _ (pattern known s : List ℕ) (n : ℕ) (h : LiteralPrefix pattern n) (l : length known ≤ n) where
  -- the bytes of the pattern behind those known
  abbrev left : List ℕ
  left = take (n - length known) (drop (length known) pattern)

  behind : Continued pattern (known ++ s) → differs left s ≡ false
  behind c =
      let path = c.first.path in
      let p = length known in
      let k = n - p in
      let same : take n path ≡ take n pattern = h.begins path (path_slash path c.first.is_path) c.fits in
      let size : length (take n path) ≡ n = ap length same ∙ length-take-le n pattern h.in_pattern in
      let long : n ≤ length path = let m = length-take n path in omega arith in
      let seam : p + k ≡ n = omega arith in
      let read : take n (path ++ (end_byte ∷ [])) ≡ known ++ take k (s ++ c.first.more) =
      ap (take n) (sym c.first.goes_on ∙ append_assoc known s c.first.more) ∙ ap (λ (i : ℕ). take i (known ++ (s ++ c.first.more))) (sym seam) ∙ take-append-add known (s ++ c.first.more) k in
      let both : take p pattern ++ left ≡ known ++ take k (s ++ c.first.more) =
      sym (take-add p k pattern) ∙ ap (λ (i : ℕ). take i pattern) seam ∙ sym same ∙ sym (take-append-le n path (end_byte ∷ []) long) ∙ read in
      let is : left ≡ take k (s ++ c.first.more) = sym (drop_at (take p pattern) left p (length-take-le p pattern (omega (arith, h.in_pattern)))) ∙ ap (drop p) both ∙ drop_at known (take k (s ++ c.first.more)) p refl in
      ap (λ (t : List ℕ). differs t s) is ∙ alike k s c.first.more

  pub ruled_out : differs left s ≡ true → reach_of pattern (known ++ s) ≡ Mismatch
  ruled_out e = go (reach_of pattern (known ++ s)) (told pattern (known ++ s))
    where
      go : (r : Answer) → Told pattern (known ++ s) r → r ≡ Mismatch
      go Match t = not_both e (behind t.0)
      go Incomplete t = not_both e (behind t.0)
      go Mismatch t = refl

pub by_difference : (pattern : List ℕ) (literal p : ℕ) (s : List ℕ) (r : Bool) → p ≤ literal → r ≡ differs (take (literal - p) (drop p pattern)) s → RuledOut pattern literal p s r
by_difference pattern literal p s r l e = record {
  mismatch = λ h t known is. ruled_out pattern known s literal h (omega arith) (ap (λ (i : ℕ). differs (take (literal - i) (drop i pattern)) s) is ∙ sym e ∙ t);
}

-- a byte other than the pattern's, where every path that fits has the pattern's, is a difference
differs_first : (l : List ℕ) (c n p : ℕ) → p < length l → 0 < n → (c ≡ get_or l p 0 → ⊥) → differs (take n (drop p l)) (c ∷ []) ≡ true
differs_first l c zero p h m f = absurd (omega arith)
differs_first l c (suc n) p h m f = rw (drop-cons l p 0 h, ne_eqb (get_or l p 0) c (λ e. f (sym e)))

pub leads_alone : (pattern : List ℕ) (literal p : ℕ) (r : Bool) → (r ≡ true → p < literal) → OneLeads pattern literal p r
leads_alone pattern literal p r inside = record {
  others = λ h e known is c f.
      let l = inside e in
      ruled_out pattern known (c ∷ []) literal h (omega arith) (differs_first pattern c (literal - length known) (length known) (omega (arith, h.in_pattern)) (omega arith) (rw is f));
}

-- ---- no more bytes than every path that fits begins with

is_true : (b : Bool) → not b ≡ false → b ≡ true
is_true true e = refl
is_true false e = not_both refl e

same_bytes : (l s : List ℕ) → length s ≤ length l → differs l s ≡ false → s ≡ take (length s) l
same_bytes l [] h e = refl
same_bytes [] (x ∷ s) h e = absurd (omega arith)
same_bytes (c ∷ l) (x ∷ s) h e =
    let n = or_left_false (not (eqb c x)) (differs l s) e in
    ap₂ ◌∷◌ (sym (eqb-true c x (is_true (eqb c x) n))) (same_bytes l s (omega arith) (or_right_false (not (eqb c x)) (differs l s) e))

module _ (pattern : List ℕ) (literal : ℕ) (P : is_fine (pattern_form pattern) ≡ true) (h : LiteralPrefix pattern literal) where
  -- some path fits, and begins with them
  literal_path : (n : ℕ) → n ≤ literal → (C : Continued pattern (take n pattern)) × (literal ≤ length C.first.path)
  literal_path n l =
      let C = some_fits pattern P in
      let path = C.first.path in
      let same : take literal path ≡ take literal pattern = h.begins path (path_slash path C.first.is_path) C.fits in
      let size : length (take literal path) ≡ literal = ap length same ∙ length-take-le literal pattern h.in_pattern in
      let same_first : take n path ≡ take n pattern = sym (take-take n literal path l) ∙ ap (take n) same ∙ take-take n literal pattern l in (
        record {
          is_pattern = P;
          first = record {
            path = path;
            is_path = C.first.is_path;
            more = drop n path ++ (end_byte ∷ []);
            goes_on =
                sym (append_assoc (take n pattern) (drop n path) (end_byte ∷ []))
                ∙ ap (λ (s : List ℕ). s ++ (end_byte ∷ [])) (ap (λ (s : List ℕ). s ++ drop n path) (sym same_first) ∙ take-append-drop n path);
          };
          fits = C.fits;
        },
        let m = length-take literal path in omega arith,
      )

  pub literal_open : (n : ℕ) → n ≤ literal → reach_of pattern (take n pattern) ≡ Incomplete
  literal_open n l = go (reach_of pattern (take n pattern)) (told pattern (take n pattern))
    where
      go : (r : Answer) → Told pattern (take n pattern) r → r ≡ Incomplete
      go Incomplete t = refl
      go Mismatch t = absurd (t (literal_path n l).0)
      go Match t =
          let D = (literal_path n l).0.first in
          let long = ap length t.1 ∙ length-append t.0.first.path (end_byte ∷ []) in
          let w = closed_path (take n pattern) D.path D.more D.is_path D.goes_on (λ z. absurd (omega arith)) (ap last_byte t.1 ∙ last_of t.0.first.path end_byte) in
          absurd (omega (arith, ap length w ∙ length-append D.path (end_byte ∷ []), length-take-le n pattern (omega (arith, h.in_pattern)), (literal_path n l).1))

  -- the answer by comparing
  pub compared : (known : List ℕ) → length known ≤ literal → differs (take literal pattern) known ≡ false → Incomplete ≡ reach_of pattern known
  compared known l e =
      let is = same_bytes (take literal pattern) known (omega (arith, length-take-le literal pattern h.in_pattern)) e ∙ take-take (length known) literal pattern l in
      sym (ap (reach_of pattern) is ∙ literal_open (length known) l)
