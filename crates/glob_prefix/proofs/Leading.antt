-- The bytes before the first `*` of a pattern: every path that fits begins with them. Assumes nothing.
use mathlib.Core.Path.{◌≡◌, refl, sym, ap, ap₂, subst, ◌∙◌}
use mathlib.Core.List.{List, [], ◌∷◌, ◌++◌}
use mathlib.Core.Bool.{Bool, true, false, not, ◌&&◌, ◌||◌}
use Prim.Native.Nat.{ℕ, zero, suc, min, ◌+◌, ◌<◌, ◌≤◌}
use native.Mathlib.Omega.{arith}
use Rattle.std.specs.Prelude.{nat_eq}
use Rattle.std.specs.List.{position_or_len}
use Rattle.std.proofs.lemmas.List.Sums.{fails_before_first, prefix_len-le-length}
use lib.ListN.{length, take, drop, get_or, length-take, length-drop}
use lib.Seq.{length-take-le, take-take, take-add, drop-drop, drop-length}
use lib.Dec.{eqb}
use lib.Pointwise.{pointwise}
use borrow.Author.Tests.{eq-eqb, eqb-true, ne_eqb}
use Rattle.buffer.specs.Lists.{none}
use Rattle.buffer.proofs.Tests.{not_both, and_left, and_right}
use Rattle.glob.specs.Bytes.{slash, star}
use Rattle.glob.specs.Labels.{up_to_slash, labels_of, deep, Begun}
use Rattle.glob.specs.Fit.{first, fits_label, fit_labels, fits_path}
use Rattle.glob_prefix.specs.Prefix.{LiteralPrefix, differs, Plain}
use Rattle.glob.proofs.Parts.{no_items, step}
use Rattle.glob.proofs.Trials.{fit_one, end_law}
use Rattle.glob.proofs.Cuts.{take_up, drop_up, begun_up, no_labels}

-- what has a first element that passes f, the others as k has it
record Firsts {B : Type 0} (f : B → Bool) (k : List B → Bool) (s : List B) : Type 0 where
  head : B
  tail : List B
  are : s ≡ head ∷ tail
  passes : f head ≡ true
  holds : k tail ≡ true

firsts : {B : Type 0} (f : B → Bool) (k : List B → Bool) (s : List B) → first f k s ≡ true → Firsts f k s
firsts f k [] e = not_both e refl
firsts f k (x ∷ s) e = record { head = x; tail = s; are = refl; passes = and_left (f x) (k s) e; holds = and_right (f x) (k s) e }

pub plain_none : (l : List ℕ) → Plain l 0
plain_none l = record { in_label = omega arith; passes = λ k e. (refl, e) }

-- the next byte is no `*`
pub plain_on : (l : List ℕ) (i : ℕ) → i < length l → (get_or l i 0 ≡ star → ⊥) → Plain l i → Plain l (i + 1)
plain_on l i h f a = record {
  in_label = omega (arith, h);
  passes = λ k e.
      let c = get_or l i 0 in
      let was = a.passes k e in
      let one : fits_label (drop i l) ≡ first (eqb c) (fits_label (drop (i + 1) l)) =
      ap fits_label (step l i h) ∙ fit_one (eqb star) eqb c (drop (i + 1) l) (ne_eqb star c (λ z. f (sym z))) in
      let g = firsts (eqb c) (fits_label (drop (i + 1) l)) (drop i k) (sym (ap (λ (t : List ℕ → Bool). t (drop i k)) one) ∙ was.1) in
      let same : c ≡ g.head = eqb-true c g.head g.passes in
      let next : take 1 (drop i k) ≡ take 1 (drop i l) = ap (take 1) g.are ∙ ap (λ (x : ℕ). x ∷ []) (sym same) ∙ sym (ap (take 1) (step l i h)) in
      let behind : drop (i + 1) k ≡ g.tail = sym (drop-drop 1 i k) ∙ ap (drop 1) g.are in
      (take-add i 1 k ∙ ap₂ ◌++◌ was.0 next ∙ sym (take-add i 1 l), ap (fits_label (drop (i + 1) l)) behind ∙ g.holds);
}

-- none of the first n bytes is a `*`
pub plain_before : (l : List ℕ) (n : ℕ) → n ≡ position_or_len (λ b. nat_eq b star) l → Plain l n
plain_before l n e = go n (omega (arith, e))
  where
    in_list : position_or_len (λ b. nat_eq b star) l ≤ length l
    in_list = prefix_len-le-length (λ b. not (nat_eq b star)) l

    go : (k : ℕ) → k ≤ position_or_len (λ b. nat_eq b star) l → Plain l k
    go zero h = plain_none l
    go (suc k) h =
        let in_l : k < length l = omega (arith, in_list) in
        let no = fails_before_first (λ b. nat_eq b star) l k 0 (omega arith) in
        subst (Plain l) (omega arith) (plain_on l k in_l (λ z. not_both (eq-eqb _ _ z) no) (go k (omega arith)))

-- no label of a pattern left takes no label
fits_none : (k : List ℕ) → fits_label [] k ≡ true → length k ≡ 0
fits_none [] e = refl
fits_none (x ∷ k) e = not_both (sym (ap (λ (t : List ℕ → Bool). t (x ∷ k)) (end_law [] refl)) ∙ e) refl

-- the labels that q and t begin with, after their `/`: t fits q, of whose label the first n bytes are plain
record Same (q t : List ℕ) (n : ℕ) : Type 0 where
  bytes : take n t ≡ take n q
  rest : n ≡ length (up_to_slash q) → Begun (drop n t) × (fit_labels (labels_of (drop n q)) (labels_of (drop n t)) ≡ true)

long_enough : (n : ℕ) (w : List ℕ) → length (take n w) ≡ n → n ≤ length w
long_enough n w e = let m = length-take n w in omega arith

same_label : (q t : List ℕ) (n : ℕ) → deep (up_to_slash q) ≡ false → Plain (up_to_slash q) n → fit_labels (up_to_slash q ∷ labels_of q) (up_to_slash t ∷ labels_of t) ≡ true → Same q t n
same_label q t n d a e =
    let u = up_to_slash q in
    let w = up_to_slash t in
    let both : fits_label u w && fit_labels (labels_of q) (labels_of t) ≡ true = sym (ap (λ (f : List (List ℕ) → Bool). f (w ∷ labels_of t)) (fit_one deep fits_label u (labels_of q) d)) ∙ e in
    let was = a.passes w (and_left (fits_label u w) (fit_labels (labels_of q) (labels_of t)) both) in
    let others = and_right (fits_label u w) (fit_labels (labels_of q) (labels_of t)) both in
    let long : n ≤ length w = long_enough n w (ap length was.0 ∙ length-take-le n u a.in_label) in
    record {
      bytes = in_up t n long ∙ was.0 ∙ sym (in_up q n a.in_label);
      rest = λ h.
          let none_left : length (drop n w) ≡ 0 = fits_none (drop n w) (sym (ap (λ (l : List ℕ). fits_label l (drop n w)) (ap (λ (m : ℕ). drop m u) h ∙ drop-length u)) ∙ was.1) in
          let all : length w ≡ n = let m = length-drop n w in omega arith in (
            subst (λ (m : ℕ). Begun (drop m t)) all (begun_up t),
            sym (ap₂ fit_labels (drop_up q ∙ ap (λ (m : ℕ). labels_of (drop m q)) (sym h)) (drop_up t ∙ ap (λ (m : ℕ). labels_of (drop m t)) all)) ∙ others,
          );
    }
  where
    in_up : (t : List ℕ) (n : ℕ) → n ≤ length (up_to_slash t) → take n t ≡ take n (up_to_slash t)
    in_up t n l = sym (take-take n (length (up_to_slash t)) t l) ∙ ap (take n) (take_up t)

-- the first a bytes of the pattern are such, and what is left of it and of a path that fits begins with a label and fits
pub record Led (pattern : List ℕ) (a : ℕ) : Type 0 where
  pub within : a ≤ length pattern
  pub begun : Begun (drop a pattern)
  pub leads : (path : List ℕ) → Begun path → fits_path pattern path ≡ true
      → (take a path ≡ take a pattern) × Begun (drop a path) × (fit_labels (labels_of (drop a pattern)) (labels_of (drop a path)) ≡ true)

-- what is not empty and begins so is `/` and what stands behind it
slash_first : (s : List ℕ) → (length s ≡ 0 → ⊥) → Begun s → s ≡ slash ∷ drop 1 s
slash_first [] f b = absurd (f refl)
slash_first (c ∷ s) f b = ap (λ (x : ℕ). x ∷ s) (b f)

-- labels that fit where the pattern has a label that is not `**` are not empty
some_left : (l : List ℕ) (ls : List (List ℕ)) (s : List ℕ) → deep l ≡ false → fit_labels (l ∷ ls) (labels_of s) ≡ true → length s ≡ 0 → ⊥
some_left l ls s d e z = not_both (sym (ap₂ (λ (f : List (List ℕ) → Bool) (t : List ℕ). f (labels_of t)) (fit_one deep fits_label l ls d) (no_items s z)) ∙ e) refl

-- the label behind a, of which n bytes are plain
record Next (pattern path : List ℕ) (a n : ℕ) : Type 0 where
  bytes : take (a + suc n) path ≡ take (a + suc n) pattern
  rest : n ≡ length (up_to_slash (drop (a + 1) pattern)) → Begun (drop (a + suc n) path) × (fit_labels (labels_of (drop (a + suc n) pattern)) (labels_of (drop (a + suc n) path)) ≡ true)

next_label : (pattern path : List ℕ) (a n : ℕ) → a < length pattern → Led pattern a → deep (up_to_slash (drop (a + 1) pattern)) ≡ false → Plain (up_to_slash (drop (a + 1) pattern)) n
    → Begun path → fits_path pattern path ≡ true → Next pattern path a n
next_label pattern path a n l h d p b e =
    let q = drop (a + 1) pattern in
    let t = drop (a + 1) path in
    let was = h.leads path b e in
    let pat : drop a pattern ≡ slash ∷ q = slash_first (drop a pattern) (λ z. let m = length-drop a pattern in omega arith) h.begun ∙ ap (λ (s : List ℕ). slash ∷ s) (drop-drop 1 a pattern) in
    let fits : fit_labels (up_to_slash q ∷ labels_of q) (labels_of (drop a path)) ≡ true = sym (ap (λ (s : List ℕ). fit_labels (labels_of s) (labels_of (drop a path))) pat) ∙ was.2 in
    let under : drop a path ≡ slash ∷ t = slash_first (drop a path) (some_left (up_to_slash q) (labels_of q) (drop a path) d fits) was.1 ∙ ap (λ (s : List ℕ). slash ∷ s) (drop-drop 1 a path) in
    let same = same_label q t n d p (sym (ap (λ (s : List ℕ). fit_labels (up_to_slash q ∷ labels_of q) (labels_of s)) under) ∙ fits) in
    let left : drop n t ≡ drop (a + suc n) path = sym (ap (drop (suc n)) under) ∙ drop-drop (suc n) a path in
    let over : drop n q ≡ drop (a + suc n) pattern = sym (ap (drop (suc n)) pat) ∙ drop-drop (suc n) a pattern in
    record {
      bytes = take-add a (suc n) path ∙ ap₂ ◌++◌ was.0 (ap (take (suc n)) under ∙ ap (λ (s : List ℕ). slash ∷ s) same.bytes ∙ sym (ap (take (suc n)) pat)) ∙ sym (take-add a (suc n) pattern);
      rest = λ z. let g = same.rest z in (subst Begun left g.0, sym (ap₂ (λ (x y : List ℕ). fit_labels (labels_of x) (labels_of y)) over left) ∙ g.1);
    }

-- label is the first of the labels of the pattern from a on, and others are those behind it; it is not `**`, and n bytes of it are plain
module _ (pattern label : List ℕ) (others : List (List ℕ)) (a n : ℕ) (h : Led pattern a) (e : labels_of (drop a pattern) ≡ label ∷ others) (d : deep label ≡ false) (p : Plain label n) where
  abbrev behind : List ℕ
  behind = drop (a + 1) pattern

  slashed : drop a pattern ≡ slash ∷ behind
  slashed = slash_first (drop a pattern) (λ z. not_both (ap none (no_labels (drop a pattern) z)) (ap none e)) h.begun ∙ ap (λ (s : List ℕ). slash ∷ s) (drop-drop 1 a pattern)

  inside : a < length pattern
  inside = let m = length-drop a pattern in let k = ap length slashed in omega arith

  same : label ∷ others ≡ up_to_slash behind ∷ labels_of behind
  same = sym e ∙ ap labels_of slashed

  is : label ≡ up_to_slash behind
  is = ap (λ (ls : List (List ℕ)). get_or ls 0 []) same

  next : (path : List ℕ) → Begun path → fits_path pattern path ≡ true → Next pattern path a n
  next path = next_label pattern path a n inside h (sym (ap deep is) ∙ d) (subst (λ (s : List ℕ). Plain s n) is p)

  here : a + suc n ≡ a + (1 + n)
  here = omega arith

  within : a + (1 + n) ≤ length pattern
  within =
      let up = long_enough (length (up_to_slash behind)) behind (ap length (take_up behind)) in
      omega (arith, inside, length-drop (a + 1) pattern, up, subst (λ (s : List ℕ). n ≤ length s) is p.in_label)

  pub stop_inside : LiteralPrefix pattern (a + (1 + n))
  stop_inside = record { in_pattern = within; begins = λ path g f. subst (λ (i : ℕ). take i path ≡ take i pattern) here (next path (λ z. g) f).bytes }

  -- all of it is plain
  pub led_on : length label ≤ n → Led pattern (a + (1 + n)) × (labels_of (drop (a + (1 + n)) pattern) ≡ others)
  led_on g =
      let all : n ≡ length (up_to_slash behind) = omega (arith, p.in_label, ap length is) in
      let over : drop (length (up_to_slash behind)) behind ≡ drop (a + (1 + n)) pattern =
      ap (λ (i : ℕ). drop i behind) (sym all) ∙ drop-drop n (a + 1) pattern ∙ ap (λ (i : ℕ). drop i pattern) (omega arith) in (
        record {
          within = within;
          begun = subst Begun over (begun_up behind);
          leads = λ path b f. let x = next path b f in subst
              (λ (i : ℕ). (take i path ≡ take i pattern) × Begun (drop i path) × (fit_labels (labels_of (drop i pattern)) (labels_of (drop i path)) ≡ true)) here
              (x.bytes, (x.rest all).0, (x.rest all).1);
        },
        ap labels_of (sym over) ∙ sym (drop_up behind) ∙ sym (ap (drop 1) same),
      )

-- lists differ where as many bytes of each do as the shorter one has
pub differs_cut : (a b : List ℕ) (n : ℕ) → n ≡ min (length a) (length b) → not (pointwise eqb (take n a) (take n b)) ≡ differs a b
differs_cut [] b zero e = refl
differs_cut [] b (suc n) e = absurd (omega arith)
differs_cut (c ∷ a) [] zero e = refl
differs_cut (c ∷ a) [] (suc n) e = absurd (omega arith)
differs_cut (c ∷ a) (x ∷ b) zero e = absurd (omega arith)
differs_cut (c ∷ a) (x ∷ b) (suc n) e = go (eqb c x) (differs_cut a b n (omega arith))
  where
    go : (y : Bool) → not (pointwise eqb (take n a) (take n b)) ≡ differs a b → not (y && pointwise eqb (take n a) (take n b)) ≡ not y || differs a b
    go true h = h
    go false h = refl
