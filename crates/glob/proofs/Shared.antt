-- Whole labels that a pattern and a path begin with alike. Assumes nothing.
use mathlib.Core.Path.{◌≡◌, refl, sym, ap, ap₂, subst, ◌∙◌}
use mathlib.Core.List.{List, [], ◌∷◌, ◌++◌, append_assoc}
use mathlib.Core.Bool.{Bool, true, false, cond, ◌&&◌}
use Prim.Native.Nat.{ℕ, ◌+◌, ◌<◌, ◌≤◌}
use native.Mathlib.Omega.{arith}
use lib.ListN.{length, get_or}
use lib.Dec.{eqb}
use borrow.Author.Tests.{eq-eqb, ne_eqb}
use Rattle.buffer.specs.Lists.{none, All}
use Rattle.buffer.specs.Lists.All.{nil, cons}
use Rattle.buffer.proofs.Lists.{all_head, all_tail, all_append}
use Rattle.buffer.proofs.Tests.{and_false}
use Rattle.glob.specs.Bytes.{slash, star}
use Rattle.glob.specs.Labels.{up_to_slash, labels_of, deep, Begun}
use Rattle.glob.specs.Fit.{first, fits_label, fit_labels}
use Rattle.glob.specs.Inner.{Says, SharedLabels}
use Rattle.glob.specs.declared.fit.Trial.TheVariants.{Fails}
use Rattle.glob.proofs.Parts.{no_items, back, back_all, back_step, back_end}
use Rattle.glob.proofs.Trials.{fit_one, first_on, end_law}
use Rattle.glob.proofs.Cuts.{end_labels, unlike_fits, plain_not_deep}

-- a byte that is neither `*` nor `/`
abbrev Own : ℕ → Type 0
Own c = (c ≡ star → ⊥) × (c ≡ slash → ⊥)

-- such bytes before others
own_up : (l t : List ℕ) → All Own l → up_to_slash (l ++ t) ≡ l ++ up_to_slash t
own_up [] t a = refl
own_up (c ∷ l) t a = rw (ne_eqb c slash (all_head a).1, own_up l t (all_tail a))

own_labels : (l t : List ℕ) → All Own l → labels_of (l ++ t) ≡ labels_of t
own_labels [] t a = refl
own_labels (c ∷ l) t a = rw (ne_eqb c slash (all_head a).1) (own_labels l t (all_tail a))

own_fits : (l t u : List ℕ) → All Own l → fits_label (l ++ t) (l ++ u) ≡ fits_label t u
own_fits [] t u a = refl
own_fits (c ∷ l) t u a =
    ap (λ (f : List ℕ → Bool). f (c ∷ (l ++ u))) (fit_one (eqb star) eqb c (l ++ t) (ne_eqb star c (λ z. (all_head a).0 (sym z))))
    ∙ rw (eq-eqb c c refl) (own_fits l t u (all_tail a))

own_not_deep : (l t : List ℕ) → All Own l → deep t ≡ false → deep (l ++ t) ≡ false
own_not_deep [] t a d = d
own_not_deep (c ∷ l) t a d = and_false (eqb (length (c ∷ (l ++ t))) 2) (eqb c star && eqb (get_or (c ∷ (l ++ t)) 1 0) star) (rw (ne_eqb c star (all_head a).0))

-- where a label begins, or at the end, no byte of a label is left
begun_none : (t : List ℕ) → Begun t → up_to_slash t ≡ []
begun_none [] b = refl
begun_none (c ∷ t) b = rw (eq-eqb c slash (b (λ z. absurd (omega arith))))

-- the labels of p and s that begin at n are alike up to i
pub record Run (p s : List ℕ) (n i : ℕ) : Type 0 where
  bytes : List ℕ
  own : All Own bytes
  in_p : back p n ≡ slash ∷ (bytes ++ back p i)
  in_s : back s n ≡ slash ∷ (bytes ++ back s i)

module _ (p s : List ℕ) where
  pub run_first : 1 ≤ length p → 1 ≤ length s → Begun p → Begun s → Run p s 0 1
  run_first l m b g = record { bytes = []; own = nil; in_p = begins p l b; in_s = begins s m g }
    where
      begins : (t : List ℕ) → 1 ≤ length t → Begun t → back t 0 ≡ slash ∷ back t 1
      begins t l b = back_step t 0 l ∙ ap (λ (c : ℕ). c ∷ back t 1) (b (λ z. absurd (omega arith)))

  pub shared_none : Begun p → Begun s → SharedLabels p s 0
  shared_none b g =
      record {
        in_pattern = omega arith;
        in_path = omega arith;
        begun_pattern = subst Begun (sym (back_all p)) b;
        begun_path = subst Begun (sym (back_all s)) g;
        passes = λ r h. subst (λ (t : List ℕ). Says (fit_labels (labels_of p)) (labels_of t) r) (back_all s) (subst (λ (t : List ℕ). Says (fit_labels (labels_of t)) (labels_of (back s 0)) r) (back_all p) h);
      }

  module _ (i : ℕ) (l : i < length p) (m : i < length s) (e : get_or p i 0 ≡ get_or s i 0) where
    -- both have the same byte at i, neither `*` nor `/`
    pub run_on : (n : ℕ) → (get_or p i 0 ≡ star → ⊥) → (get_or p i 0 ≡ slash → ⊥) → Run p s n i → Run p s n (i + 1)
    run_on n w v h =
        record {
          bytes = h.bytes ++ (get_or p i 0 ∷ []);
          own = all_append h.own (cons (w, v) nil);
          in_p = h.in_p ∙ ap (λ (t : List ℕ). slash ∷ t) (ap (λ (t : List ℕ). h.bytes ++ t) (back_step p i l) ∙ sym (append_assoc h.bytes (get_or p i 0 ∷ []) (back p (i + 1))));
          in_s = h.in_s ∙ ap (λ (t : List ℕ). slash ∷ t) (ap (λ (t : List ℕ). h.bytes ++ t) (back_step s i m ∙ ap (λ (c : ℕ). c ∷ back s (i + 1)) (sym e)) ∙ sym (append_assoc h.bytes (get_or p i 0 ∷ []) (back s (i + 1))));
        }

    -- both have a `/` there, at which the next labels begin
    pub run_next : get_or p i 0 ≡ slash → Run p s i (i + 1)
    run_next z = record {
      bytes = [];
      own = nil;
      in_p = back_step p i l ∙ ap (λ (c : ℕ). c ∷ back p (i + 1)) z;
      in_s = back_step s i m ∙ ap (λ (c : ℕ). c ∷ back s (i + 1)) (sym e ∙ z);
    }

  module _ (n i : ℕ) (h : Run p s n i) where
    abbrev label : List ℕ → List ℕ
    label t = h.bytes ++ up_to_slash t

    labels : (q t : List ℕ) → q ≡ slash ∷ (h.bytes ++ t) → labels_of q ≡ label t ∷ labels_of t
    labels q t e = ap labels_of e ∙ ap₂ (λ (x : List ℕ) (y : List (List ℕ)). x ∷ y) (own_up h.bytes t h.own) (own_labels h.bytes t h.own)

    takes : deep (up_to_slash (back p i)) ≡ false → fit_labels (labels_of (back p n)) ≡ first (fits_label (label (back p i))) (fit_labels (labels_of (back p i)))
    takes d = ap fit_labels (labels (back p n) (back p i) h.in_p) ∙ fit_one deep fits_label (label (back p i)) (labels_of (back p i)) (own_not_deep h.bytes (up_to_slash (back p i)) h.own d)

    -- the labels that begin at n end at i
    pub shared_on : i ≤ length p → i ≤ length s → Begun (back p i) → Begun (back s i) → SharedLabels p s n → SharedLabels p s i
    shared_on l m b g a =
        let f = fits_label (label (back p i)) in
        let k = fit_labels (labels_of (back p i)) in
        let fits : f (label (back s i)) ≡ true = own_fits h.bytes (up_to_slash (back p i)) (up_to_slash (back s i)) h.own ∙ ap₂ fits_label (begun_none (back p i) b) (begun_none (back s i) g) ∙ ap (λ (t : List ℕ → Bool). t []) (end_law [] refl) in
        record {
          in_pattern = l;
          in_path = m;
          begun_pattern = b;
          begun_path = g;
          passes = λ r y. a.passes r
              (subst (λ (q : List (List ℕ) → Bool). Says q (labels_of (back s n)) r) (sym (takes (ap deep (begun_none (back p i) b))))
              (subst (λ (t : List (List ℕ)). Says (first f k) t r) (sym (labels (back s n) (back s i) h.in_s)) (first_on k f (label (back s i)) (labels_of (back s i)) r fits y)));
        }

    -- what is left of the labels, or what stands behind them, does not fit
    shared_fails : deep (up_to_slash (back p i)) ≡ false → fits_label (up_to_slash (back p i)) (up_to_slash (back s i)) && fit_labels (labels_of (back p i)) (labels_of (back s i)) ≡ false → SharedLabels p s n → fit_labels (labels_of p) (labels_of s) ≡ false
    shared_fails d e a =
        let k = fit_labels (labels_of (back p i)) in
        a.passes Fails
        (ap₂ (λ (q : List (List ℕ) → Bool) (t : List (List ℕ)). q t) (takes d) (labels (back s n) (back s i) h.in_s) ∙ ap (λ (b : Bool). b && k (labels_of (back s i))) (own_fits h.bytes (up_to_slash (back p i)) (up_to_slash (back s i)) h.own) ∙ e)

    -- the bytes at i differ, the pattern's no `*`
    pub shared_unlike : i < length p → i < length s → (get_or p i 0 ≡ star → ⊥) → (get_or p i 0 ≡ get_or s i 0 → ⊥) → SharedLabels p s n → fit_labels (labels_of p) (labels_of s) ≡ false
    shared_unlike l m w e =
        let b = back_step p i l in
        shared_fails (ap (λ (t : List ℕ). deep (up_to_slash t)) b ∙ plain_not_deep (get_or p i 0) (back p (i + 1)) w)
        (ap (λ (b : Bool). b && fit_labels (labels_of (back p i)) (labels_of (back s i))) (ap₂ (λ (x y : List ℕ). fits_label (up_to_slash x) (up_to_slash y)) b (back_step s i m) ∙ unlike_fits (get_or p i 0) (get_or s i 0) (back p (i + 1)) (back s (i + 1)) w e))

    -- the pattern has ended at i, and s goes on
    pub shared_longer : length p ≤ i → i < length s → SharedLabels p s n → fit_labels (labels_of p) (labels_of s) ≡ false
    shared_longer l m =
        let b = no_items (back p i) (back_end p i l) in
        shared_fails (ap (λ (t : List ℕ). deep (up_to_slash t)) b) (ap₂ (λ (x y : List ℕ). fits_label (up_to_slash x) (up_to_slash y) && fit_labels (labels_of x) (labels_of y)) b (back_step s i m) ∙ more (get_or s i 0) (back s (i + 1)))
      where
        more : (c : ℕ) (t : List ℕ) → fits_label [] (up_to_slash (c ∷ t)) && fit_labels [] (labels_of (c ∷ t)) ≡ false
        more c t = rw (end_law [] refl, end_labels [] refl) (go (eqb c slash))
          where
            go : (b : Bool) → none (cond b [] (c ∷ up_to_slash t)) && none (cond b (up_to_slash t ∷ labels_of t) (labels_of t)) ≡ false
            go true = refl
            go false = refl
