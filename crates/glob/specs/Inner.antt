-- What the functions below the public ones promise. No public contract cites these.
use Rattle.std.specs.Prelude.{ℕ, Option, Some, None, get_or, ◌+◌, ◌-◌, ◌<◌, ◌≤◌, ◌≡◌, List, Bool, true, false, length, take, drop}
use Rattle.glob.specs.Bytes.{slash}
use Rattle.glob.specs.Labels.{up_to_slash, labels_of, Begun}
use Rattle.glob.specs.Fit.{after_some, fits_label, fit_labels}
use Rattle.glob.specs.declared.fit.Trial.{Trial}
use Rattle.glob.specs.declared.fit.Trial.TheVariants.{Fits, Fails, Never}

-- what an answer says of k and s. `Never`: k fails of s, and of whatever is left of s once some of its first elements are taken away
abbrev pub Says : {B : Type 0} → (List B → Bool) → List B → Trial → Type 0
Says k s Fits = k s ≡ true
Says k s Fails = k s ≡ false
Says k s Never = after_some k s ≡ false

abbrev pub is_fit : Trial → Bool
is_fit Fits = true
is_fit Fails = false
is_fit Never = false

-- p, a label of a pattern, and s begin alike with r bytes, none a `*`: a trial of what is left of both is a trial of the whole
pub record Alike (p s : List ℕ) (r : ℕ) : Type 0 where
  pub in_pattern : r ≤ length p
  pub in_label : r ≤ length s
  pub passes : (t : Trial) → Says (fits_label (take (length p - r) (drop r p))) (take (length s - r) (drop r s)) t → Says (fits_label p) s t

-- Off holds of each place from `from` up to r, which is at most one past the last place, n
pub record Skipped (Off : ℕ → Type 0) (n from r : ℕ) : Type 0 where
  pub low : from ≤ r
  pub high : r ≤ n + 1
  pub each : (i : ℕ) → from ≤ i → i < r → Off i

-- the next place, from one on, at which Off may not hold; or it holds of all places that are left
abbrev pub Next : (ℕ → Type 0) → ℕ → ℕ → Option ℕ → Type 0
Next Off n from (Some r) = Skipped Off n from r × (r ≤ n)
Next Off n from None = Skipped Off n from (n + 1)

-- what is left of s at i does not fit p, a label of a pattern
abbrev pub OffLabel : List ℕ → List ℕ → ℕ → Type 0
OffLabel p s i = fits_label p (take (length s - i) (drop i s)) ≡ false

-- at i of s, if a label begins there or s has ended, what is left does not fit ps, the labels of a pattern
abbrev pub OffLabels : List (List ℕ) → List ℕ → ℕ → Type 0
OffLabels ps s i = Begun (take (length s - i) (drop i s)) → fit_labels ps (labels_of (take (length s - i) (drop i s))) ≡ false

-- a trial of what is left of p, a pattern, and of s from r on is a trial of the whole: so it is behind whole labels that both begin with, none with a `*`
pub record SharedLabels (p s : List ℕ) (r : ℕ) : Type 0 where
  pub in_pattern : r ≤ length p
  pub in_path : r ≤ length s
  pub begun_pattern : Begun (take (length p - r) (drop r p))
  pub begun_path : Begun (take (length s - r) (drop r s))
  pub passes : (t : Trial) → Says (fit_labels (labels_of (take (length p - r) (drop r p)))) (labels_of (take (length s - r) (drop r s))) t → Says (fit_labels (labels_of p)) (labels_of s) t

-- a trial may go on from r; or s does not fit
abbrev pub AlikeLabels : List ℕ → List ℕ → Option ℕ → Type 0
AlikeLabels p s (Some r) = SharedLabels p s r
AlikeLabels p s None = fit_labels (labels_of p) (labels_of s) ≡ false

-- where the last label begins: behind the last `/`; or there is none
abbrev pub LastLabel : List ℕ → Option ℕ → Type 0
LastLabel s (Some a) = (a + length (up_to_slash (drop a s)) ≡ length s) × (1 ≤ a) × (get_or s (a - 1) 0 ≡ slash)
LastLabel s None = 0 + length (up_to_slash s) ≡ length s
