-- Looking for a key among suffixes, one after the other. Assumes nothing.
use mathlib.Core.Path.{◌≡◌, refl, sym, ap, ◌∙◌}
use mathlib.Core.Bool.{true, false, ◌||◌}
use Prim.Native.Nat.{ℕ}
use mathlib.Core.List.{List, [], ◌∷◌}
use lib.ListN.{length}
use lib.Dec.{eqb}
use lib.Pointwise.{pointwise}
use Rattle.rows.proofs.Compare.{same_pointwise}
use Rattle.trie_theory.specs.Forest.{Strings, Key}
use Rattle.buffer.specs.Lists.{All, any, same}
use Rattle.trie_theory.specs.Strings.{at}
use Rattle.trie_theory.specs.Lookup.{among, same_key}
use Rattle.std.specs.Prelude.{Some, None}
use Rattle.trie_read.specs.Shape.{Fixed, key_of}
use Rattle.trie_read.specs.Suffixes.{suffixes_bytes, Tail, tail_of}
use Rattle.trie_read.proofs.Node.{two}
use Rattle.trie_read.proofs.SuffixParts.{Seen, tail_end, tail_at}

module _ (v p r v' p' r' : List ℕ) where
  same_all : same eqb v v' ≡ true → same eqb p p' ≡ true → same_key (key_of v p r) (key_of v' p' r') ≡ same eqb r r'
  unfolding same_key same
  same_all a b = rw (a, b)

  same_value : same eqb v v' ≡ false → same_key (key_of v p r) (key_of v' p' r') ≡ false
  unfolding same_key same
  same_value a = rw a

  same_path : same eqb v v' ≡ true → same eqb p p' ≡ false → same_key (key_of v p r) (key_of v' p' r') ≡ false
  unfolding same_key same
  same_path a b = rw (a, b)

-- the same, in the words of the library's comparison
module _ (v p r v' p' r' : List ℕ) where
  pub is_all : pointwise eqb v v' ≡ true → pointwise eqb p p' ≡ true → pointwise eqb r r' ≡ same_key (key_of v p r) (key_of v' p' r')
  is_all a b = sym (same_pointwise r r') ∙ sym (same_all v p r v' p' r' (same_pointwise v v' ∙ a) (same_pointwise p p' ∙ b))

  pub is_path : pointwise eqb v v' ≡ true → pointwise eqb p p' ≡ false → false ≡ same_key (key_of v p r) (key_of v' p' r')
  is_path a b = sym (same_path v p r v' p' r' (same_pointwise v v' ∙ a) (same_pointwise p p' ∙ b))

  pub is_value : pointwise eqb v v' ≡ false → false ≡ same_key (key_of v p r) (key_of v' p' r')
  is_value a = sym (same_value v p r v' p' r' (same_pointwise v v' ∙ a))

-- a key of two strings
pub two_strings : (t : Key) → length t.strings ≡ 2 → t ≡ key_of (at 0 t.strings) (at 1 t.strings) t.reference
two_strings t h = ap (λ (s : Strings). record { strings = s; reference = t.reference }) (two t.strings h)

-- what is still to be looked at
pub record Among (x : Key) (b : List ℕ) (all : List Key) : Type 0 where
  pub left : List Key
  pub fixed : All Fixed left
  pub bytes : b ≡ suffixes_bytes left
  pub same : among x left ≡ among x all

among_cons : (x t : Key) (ts : List Key) → among x (t ∷ ts) ≡ same_key x t || among x ts
unfolding among any
among_cons x t ts = refl

among_none : (x : Key) → among x [] ≡ false
unfolding among any
among_none x = refl

-- the key that a tail shows
pub seen_key : {ts : List Key} {x : Tail} (v : Seen ts x) → key_of x.value x.path x.reference ≡ v.t
seen_key v = rw (v.value_is, v.path_is, v.reference_is) (sym (two_strings v.t v.own.0))

module _ {x : Key} {b : List ℕ} {ts : List Key} (l : Among x b ts) where
  pub among_end : None ≡ tail_of l.left → false ≡ among x ts
  among_end e = sym (among_none x) ∙ sym (ap (among x) (tail_end l.left e)) ∙ l.same

  module _ (y : Tail) (e : Some y ≡ tail_of l.left) where
    seen : Seen l.left y
    seen = tail_at l.left y l.fixed e

    step : among x ts ≡ same_key x (key_of y.value y.path y.reference) || among x seen.others
    step = sym l.same ∙ ap (among x) seen.is ∙ among_cons x seen.t seen.others ∙ ap (λ (k : Key). same_key x k || among x seen.others) (sym (seen_key seen))

    pub among_found : same_key x (key_of y.value y.path y.reference) ≡ true → true ≡ among x ts
    among_found s = sym (step ∙ rw s)

    pub among_next : same_key x (key_of y.value y.path y.reference) ≡ false → Among x y.rest ts
    among_next s = record { left = seen.others; fixed = seen.fixed; bytes = seen.rest_is; same = sym (step ∙ rw s) }
