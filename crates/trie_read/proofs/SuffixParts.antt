-- The bytes of suffixes, taken apart: what the first of them says, and which stretch is which. Assumes nothing.
use mathlib.Core.Path.{◌≡◌, refl, ap, ◌∙◌}
use Prim.Native.Nat.{ℕ, ◌+◌, ◌≤◌}
use mathlib.Core.List.{List, [], ◌∷◌, ◌++◌, append_assoc, map}
use native.Mathlib.Omega.{arith}
use lib.ListN.{length, get_or, take, length-append}
use Rattle.std.specs.Prelude.{Some, None}
use Rattle.trie_theory.specs.Forest.{Strings, Key}
use Rattle.buffer.specs.Lists.{All, cons, flat}
use Rattle.trie_theory.specs.Strings.{at}
use Rattle.trie_theory.specs.Encode.{suffix_bytes}
use Rattle.trie_read.proofs.Stretch.{part_at, part_end, cut, cut_last}
use Rattle.trie_read.specs.Shape.{part, Fixed}
use Rattle.trie_read.specs.Suffixes.{suffixes_bytes, Tail, tail_of}

-- the two lengths and the reference
abbrev pub lead : Strings → List ℕ → List ℕ
lead s r = length (at 0 s) ∷ length (at 1 s) ∷ r

strings_is : (s : Strings) (r rest : List ℕ) → length s ≡ 2 → (map length s ++ (r ++ flat s)) ++ rest ≡ lead s r ++ (at 0 s ++ (at 1 s ++ rest))
unfolding flat
strings_is [] r rest h = absurd (omega arith)
strings_is (v ∷ []) r rest h = absurd (omega arith)
strings_is (v ∷ p ∷ []) r rest h = simp append_assoc
strings_is (v ∷ p ∷ q ∷ s) r rest h = absurd (omega arith)

pub suffix_is : (t : Key) (rest : List ℕ) → Fixed t → suffix_bytes t ++ rest ≡ lead t.strings t.reference ++ (at 0 t.strings ++ (at 1 t.strings ++ rest))
unfolding suffix_bytes
suffix_is t rest h = strings_is t.strings t.reference rest h.0

-- b are the bytes of a suffix t, and then rest
pub record SuffixView (b : List ℕ) (t : Key) (rest : List ℕ) (path next : ℕ) : Type 0 where
  pub reference_is : part 2 22 b ≡ t.reference
  pub value_is : part 22 path b ≡ at 0 t.strings
  pub path_is : part path next b ≡ at 1 t.strings
  pub rest_is : part next (length b) b ≡ rest
  pub long : next ≤ length b
  pub first : get_or b 0 0 ≡ length (at 0 t.strings)
  pub second : get_or b 1 0 ≡ length (at 1 t.strings)

module _ (s : Strings) (r rest : List ℕ) (h : length r ≡ 20) where
  pub lead_view :
      SuffixView (lead s r ++ (at 0 s ++ (at 1 s ++ rest))) (record { strings = s; reference = r }) rest (22 + length (at 0 s)) (22 + length (at 0 s) + length (at 1 s))
  lead_view =
      let v = at 0 s in
      let p = at 1 s in
      let l = lead s r in
      let lv = length-append l v in
      let lvp = length-append (l ++ v) p in
      record {
        reference_is = part_at (length v ∷ length p ∷ []) r (v ++ (p ++ rest)) 2 22 refl (omega arith);
        value_is = part_at l v (p ++ rest) 22 _ (omega arith) refl;
        path_is = rw (← append_assoc l v (p ++ rest)) (part_at (l ++ v) p rest _ _ (omega arith) refl);
        rest_is = part_end (l ++ (v ++ (p ++ rest))) ((l ++ v) ++ p) rest _ (simp append_assoc) (omega arith);
        long = omega (arith, length-append l (v ++ (p ++ rest)), length-append v (p ++ rest), length-append p rest);
        first = refl;
        second = refl;
      }

pub view : (t : Key) (rest : List ℕ) → Fixed t
    → SuffixView (suffix_bytes t ++ rest) t rest (22 + length (at 0 t.strings)) (22 + length (at 0 t.strings) + length (at 1 t.strings))
view t rest h = rw (suffix_is t rest h) (lead_view t.strings t.reference rest h.1)

-- ---- what the code reads

-- what the first suffix says
abbrev pub tail_with : Key → List Key → Tail
tail_with t ts = record { value = at 0 t.strings; path = at 1 t.strings; reference = t.reference; rest = suffixes_bytes ts }

tail_cons : (t : Key) (ts : List Key) → tail_of (t ∷ ts) ≡ Some (tail_with t ts)
unfolding tail_of
tail_cons t ts = refl

pub none_end : (ts : List Key) → length (suffixes_bytes ts) ≡ 0 → All Fixed ts → None ≡ tail_of ts
unfolding tail_of flat
none_end [] e a = refl
none_end (t ∷ ts) e (cons h a) = absurd (omega (arith, (view t (suffixes_bytes ts) h).long))

pub record Some_of (b : List ℕ) (ts : List Key) : Type 0 where
  pub t : Key
  pub others : List Key
  pub is : ts ≡ t ∷ others
  pub fixed : All Fixed others
  pub seen : SuffixView b t (suffixes_bytes others) (22 + length (at 0 t.strings)) (22 + length (at 0 t.strings) + length (at 1 t.strings))

pub some : (b : List ℕ) (ts : List Key) → All Fixed ts → b ≡ suffixes_bytes ts → (length b ≡ 0 → ⊥) → Some_of b ts
unfolding flat
some b [] a e n = absurd (n (rw e))
some b (t ∷ ts) (cons h a) e n = record { t = t; others = ts; is = refl; fixed = a; seen = rw e (view t (suffixes_bytes ts) h) }

module _ (b : List ℕ) (ts : List Key) (a : All Fixed ts) (e : b ≡ suffixes_bytes ts) where
  pub read_end : length b ≡ 0 → None ≡ tail_of ts
  read_end z = none_end ts (rw e at z) a

  pub read_long : (length b ≡ 0 → ⊥) → 22 + get_or b 0 0 + get_or b 1 0 ≤ length b
  read_long n = let w = some b ts a e n in omega (arith, w.seen.first, w.seen.second, w.seen.long)

  pub read_at : (length b ≡ 0 → ⊥) → (path next : ℕ) → path ≡ 22 + get_or b 0 0 → next ≡ path + get_or b 1 0
      → Some (record { value = part 22 path b; path = part path next b; reference = part 2 22 b; rest = part next (length b) b }) ≡ tail_of ts
  read_at n path next p x =
      let w = some b ts a e n in
      let y : path ≡ 22 + length (at 0 w.t.strings) = omega (arith, w.seen.first) in
      let z : next ≡ 22 + length (at 0 w.t.strings) + length (at 1 w.t.strings) = omega (arith, w.seen.first, w.seen.second) in
      rw (w.is, tail_cons w.t w.others, y, z, w.seen.value_is, w.seen.path_is, w.seen.reference_is, w.seen.rest_is) refl

-- bytes are the lengths of a suffix's strings, and its parts
pub suffix_parts_are : (b : List ℕ) (path next : ℕ) → 22 ≤ path → path ≤ next → next ≤ length b
    → b ≡ take 2 b ++ (part 2 22 b ++ (part 22 path b ++ (part path next b ++ part next (length b) b)))
suffix_parts_are b path next h k l =
    cut 0 2 b (omega arith)
    ∙ ap (λ (x : List ℕ). take 2 b ++ x) (cut 2 22 b (omega arith) ∙ ap (λ (x : List ℕ). part 2 22 b ++ x) (cut 22 path b h ∙ ap (λ (x : List ℕ). part 22 path b ++ x) (cut path next b k ∙ ap (λ (x : List ℕ). part path next b ++ x) (cut_last next b))))

-- ---- suffixes taken apart: what every reader starts from

pub tail_end : (ts : List Key) → None ≡ tail_of ts → ts ≡ []
unfolding tail_of
tail_end [] e = refl
tail_end (t ∷ ts) e = absurd cc

-- the first suffix, seen from its tail x
pub record Seen (ts : List Key) (x : Tail) : Type 0 where
  pub t : Key
  pub others : List Key
  pub is : ts ≡ t ∷ others
  pub own : Fixed t
  pub fixed : All Fixed others
  pub value_is : x.value ≡ at 0 t.strings
  pub path_is : x.path ≡ at 1 t.strings
  pub reference_is : x.reference ≡ t.reference
  pub rest_is : x.rest ≡ suffixes_bytes others

pub tail_at : (ts : List Key) (x : Tail) → All Fixed ts → Some x ≡ tail_of ts → Seen ts x
unfolding tail_of
tail_at [] x a e = absurd cc
tail_at (t ∷ ts) x (cons w a) e =
    let q : x ≡ tail_with t ts = cc in
    record {
      t = t;
      others = ts;
      is = refl;
      own = w;
      fixed = a;
      value_is = ap (λ (y : Tail). y.value) q;
      path_is = ap (λ (y : Tail). y.path) q;
      reference_is = ap (λ (y : Tail). y.reference) q;
      rest_is = ap (λ (y : Tail). y.rest) q;
    }
