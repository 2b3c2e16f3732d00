-- The steps of a search. Assumes nothing.
use mathlib.Core.Path.{◌≡◌, refl, sym, ap, ap₂, subst, ◌∙◌}
use mathlib.Core.Bool.{Bool, true, false, cond, ◌&&◌}
use Prim.Native.Nat.{ℕ, suc, ◌+◌, ◌-◌, ◌≤◌, min}
use mathlib.Core.List.{List, [], ◌∷◌, ◌++◌, append-nil, append_assoc}
use native.Mathlib.Omega.{arith}
use lib.ListN.{length, take, drop, length-append}
use lib.Seq.{take-take, take_at, drop_at}
use Rattle.std.specs.Prelude.{Option, Some, None}
use Rattle.std.proofs.lemmas.List.{take-append-drop}
use Rattle.buffer.specs.Splice.{splice, region}
use Rattle.buffer.proofs.Splice.{region_drop, region_add, region_before, region_at_lem, take_before}
use Rattle.matcher.specs.Continued.{FirstBytes}
use Rattle.matcher.specs.Reach.{reach_of, goes_on}
use Rattle.matcher.proofs.Firsts.{first_before}
use Rattle.matcher.specs.declared.reach.Answer.{Answer}
use Rattle.matcher.specs.declared.reach.Answer.TheVariants.{Match, Mismatch, Incomplete}
use Rattle.rows.specs.Sizes.{value_size, path_at}
use Rattle.trie_theory.specs.Forest.{Strings, Key, join, under}
use Rattle.trie_theory.specs.Strings.{at}
use Rattle.trie_theory.specs.Dimensions.{below}
use Rattle.trie_theory.specs.Search.{branch, enters}
use Rattle.entries.specs.Slots.{slot_size}
use Rattle.entries.specs.Query.{Query, value_reach, reaches, wants, is_match}
use Rattle.gather.specs.KeySlots.{ended_limit, has_slot, key_slot, known, suffix_key}
use Rattle.gather.specs.Walks.{known_strings}
use Rattle.entries.specs.declared.known.Known.{Known}
use Rattle.gather.proofs.Filling.{known_same, unfilled, slot_kept}
use Rattle.trie_read.specs.Shape.{above_of}
use Rattle.trie_read.specs.Suffixes.{SuffixStands}
use Rattle.trie_read.specs.declared.suffix.Suffix.{Suffix}
use Rattle.trie_read.specs.declared.beyond.Beyond.{Beyond}
use Rattle.trie_read.specs.declared.kind.Dimension.{Dimension}
use Rattle.trie_read.specs.declared.kind.Dimension.TheVariants.{Value, Path, Other}
use Rattle.buffer.proofs.Tests.{not_both, and_both, and_false}
use Rattle.value_range.specs.Spans.{Spans}
use Rattle.search.specs.declared.step.Common.{Common}
use Rattle.search.specs.Steps.{both, takes, InCommon, Taken}

-- the path known, where a slice has as many bytes
pub path_asked : (pattern k : List ℕ) (n p : ℕ) (r : Answer) → n ≡ p → (FirstBytes (take n (drop path_at k)) → r ≡ reach_of pattern (take n (drop path_at k)))
    → FirstBytes (take p (drop path_at k)) → r ≡ reach_of pattern (take p (drop path_at k))
path_asked pattern k n p r e h = rw e at h

-- ---- both dimensions

pub both_goes : (v p : Answer) → goes_on (both v p) ≡ goes_on v && goes_on p
both_goes Mismatch p = refl
both_goes Match p = refl
both_goes Incomplete Mismatch = refl
both_goes Incomplete Match = refl
both_goes Incomplete Incomplete = refl

-- a path that is no beginning answers for both
pub both_out : (v p : Answer) → Mismatch ≡ p → Mismatch ≡ both v p
both_out Mismatch p e = refl
both_out Match p e = e
both_out Incomplete p e = rw (← e) refl

pub both_match : (v p : Answer) → is_match (both v p) ≡ is_match v && is_match p
both_match Mismatch p = refl
both_match Match p = refl
both_match Incomplete Mismatch = refl
both_match Incomplete Match = refl
both_match Incomplete Incomplete = refl

-- ---- the branching byte

-- in the value, and in the path
branch_value : (k s : List ℕ) (ks ss : Strings) → branch 0 (k ∷ ks) (s ∷ ss) ≡ (k ++ take 1 s) ∷ ks
unfolding branch
branch_value k [] ks ss = ap (λ (x : List ℕ). x ∷ ks) (sym (append-nil k))
branch_value k (b ∷ s) ks ss = refl

branch_path : (k l s t : List ℕ) → branch 1 (k ∷ l ∷ []) (s ∷ t ∷ []) ≡ k ∷ (l ++ take 1 t) ∷ []
unfolding branch
branch_path k l s [] = ap (λ (x : List ℕ). k ∷ x ∷ []) (sym (append-nil l))
branch_path k l s (b ∷ t) = refl

-- there is no third dimension
branch_others : (d : ℕ) (k l s t : List ℕ) → branch (suc (suc d)) (k ∷ l ∷ []) (s ∷ t ∷ []) ≡ k ∷ l ∷ []
unfolding branch
branch_others d k l s t = refl

-- below a node that branches in the value, in the path, and in neither dimension
module _ (q : Query) (v p : ℕ) (k a b s : List ℕ) where
  pub enters_first : goes_on (value_reach q (take v k ++ take 1 a)) && goes_on (reach_of q.pattern (region k path_at p)) ≡ enters (reaches q) (below 0) (known v p k) (a ∷ b ∷ [])
  unfolding enters reaches known
  enters_first = ap (reaches q) (sym (branch_value (take v k) a (region k path_at p ∷ []) (b ∷ [])))

  pub enters_second : s ≡ take 1 b → goes_on (value_reach q (take v k)) && goes_on (reach_of q.pattern (region k path_at p ++ s)) ≡ enters (reaches q) (below 1) (known v p k) (a ∷ b ∷ [])
  unfolding enters reaches known
  enters_second e = rw e (ap (reaches q) (sym (branch_path (take v k) (region k path_at p) a b)))

  pub enters_others : (d : ℕ) → goes_on (value_reach q (take v k)) && goes_on (reach_of q.pattern (region k path_at p ++ [])) ≡ enters (reaches q) (below (suc (suc d))) (known v p k) (a ∷ b ∷ [])
  unfolding enters reaches known
  enters_others d = rw (append-nil (region k path_at p)) (ap (reaches q) (sym (branch_others d (take v k) (region k path_at p) a b)))

-- a search enters a root, and a child where the bytes known at its parent with the branching byte added can be continued
module _ (q : Query) (above : Option Dimension) (v p : ℕ) (k a b : List ℕ) where
  pub enters_root : above ≡ None → true ≡ enters (reaches q) (above_of above) (known v p k) (a ∷ b ∷ [])
  unfolding enters
  enters_root e = rw e

  pub enters_value : above ≡ Some Value
      → goes_on (value_reach q (take v k ++ take 1 a)) && goes_on (reach_of q.pattern (region k path_at p)) ≡ enters (reaches q) (above_of above) (known v p k) (a ∷ b ∷ [])
  enters_value e = rw e (enters_first q v p k a b [])

  pub enters_path : above ≡ Some Path
      → goes_on (value_reach q (take v k)) && goes_on (reach_of q.pattern (region k path_at p ++ take (min (length b) 1) b)) ≡ enters (reaches q) (above_of above) (known v p k) (a ∷ b ∷ [])
  enters_path e = rw e (enters_second q v p k a b _ (first_of b))
    where
      first_of : (b : List ℕ) → take (min (length b) 1) b ≡ take 1 b
      first_of [] = refl
      first_of (c ∷ b) = let z : min (suc (length b)) 1 ≡ 1 = omega arith in rw z

  pub enters_other : (c : Beyond) → above ≡ Some (Other c)
      → goes_on (value_reach q (take v k)) && goes_on (reach_of q.pattern (region k path_at p ++ [])) ≡ enters (reaches q) (above_of above) (known v p k) (a ∷ b ∷ [])
  enters_other c e = rw e (enters_others q v p k a b [] (c.byte - 3))

-- what stands above is one thing
pub apart_none : {above : Option Dimension} {d : Dimension} → above ≡ Some d → above ≡ None → ⊥
apart_none e z = absurd cc

some_same : {a b : Dimension} → Some a ≡ Some b → a ≡ b
some_same h = cc

pub apart_else : {above : Option Dimension} {d : Dimension} → above ≡ Some d → (d ≡ Value → ⊥) → above ≡ Some Value → ⊥
apart_else e n z = n (some_same (sym e ∙ z))

pub path_apart : {d : Dimension} → d ≡ Path → d ≡ Value → ⊥
path_apart e z = let y : Path ≡ Value = sym e ∙ z in absurd cc

pub other_apart : {d : Dimension} (c : Beyond) → d ≡ Other c → d ≡ Value → ⊥
other_apart c e z = let y : Other c ≡ Value = sym e ∙ z in absurd cc

-- fewer of the first bytes of a path
pub first_less : (k t : List ℕ) (n : ℕ) → FirstBytes (k ++ t) → FirstBytes (k ++ take n t)
first_less k t n f = first_before (k ++ take n t) (drop n t) (subst FirstBytes (ap (λ (s : List ℕ). k ++ s) (sym (take-append-drop n t)) ∙ sym (append_assoc k (take n t) (drop n t))) f)

-- ---- the step to a node

-- the buffer with more of the path behind the known bytes
module _ (k k' s : List ℕ) (p : ℕ) (long : length k ≡ slot_size) (room : p + length s ≤ ended_limit + 1) (e : k' ≡ splice k (path_at + p) s) where
  pub path_more : take (path_at + p + length s - path_at) (drop path_at k') ≡ region k path_at p ++ s
  path_more =
      let z : path_at + p + length s - path_at ≡ p + length s = omega arith in
      let fit : path_at + p + length s ≤ length k = omega arith in
      rw (z, e)
      (region_add (splice k (path_at + p) s) path_at p (length s)
      ∙ ap₂ ◌++◌ (region_before k (path_at + p) s fit path_at p (omega arith)) (region_at_lem k (path_at + p) s fit))

  pub front_kept : take (path_at + p) k' ≡ take (path_at + p) k
  front_kept = rw e (take_before k (path_at + p) s (omega arith) (path_at + p) (omega arith))

-- where the bytes up to the end of the known path stay, what is known stays
pub known_front : (v p : ℕ) (k k' : List ℕ) → length k ≡ slot_size → length k' ≡ slot_size → v ≤ value_size → take (path_at + p) k' ≡ take (path_at + p) k → known v p k' ≡ known v p k
known_front v p k k' long long' h e =
    known_same v p k' k
    (sym (take-take v (path_at + p) k' (omega arith)) ∙ ap (take v) e ∙ take-take v (path_at + p) k (omega arith))
    (region_drop k' path_at p (omega arith) ∙ ap (drop path_at) e ∙ sym (region_drop k path_at p (omega arith)))

-- ---- the step to a key

module _ (q : Query) (x : Known) (value path reference k : List ℕ) (long : length k ≡ slot_size) where
  abbrev y : Key
  y = suffix_key (known_strings x k) value path reference

  -- the test of both dimensions
  wants_both : is_match (value_reach q (take x.value k ++ value)) && is_match (reach_of q.pattern (region k path_at x.path ++ path)) ≡ wants q y
  unfolding wants under join known
  wants_both = refl

  pub wants_told : (a m : Answer) (r : Bool) → a ≡ value_reach q (take x.value k ++ value)
      → m ≡ both a (reach_of q.pattern (region k path_at x.path ++ path)) → r ≡ is_match m → wants q y ≡ r
  wants_told a m r e f g =
      let t = reach_of q.pattern (region k path_at x.path ++ path) in
      sym wants_both ∙ ap (λ (z : Answer). is_match z && is_match t) (sym e) ∙ sym (both_match a t) ∙ sym (ap is_match f) ∙ sym g

  taken_not : {k' : List ℕ} → (FirstBytes (region k path_at x.path ++ path) → has_slot y && wants q y ≡ false) → known_strings x k' ≡ known_strings x k → Taken q x value path reference k k' false
  unfolding takes
  taken_not h e = record { fits = λ z. not_both z refl; is = λ f. sym (h f); slot = λ z. not_both z refl; kept = e }

  -- there is no slot for so many bytes
  pub taken_none : (x.value + length value ≡ value_size → x.path + length path ≤ ended_limit → ⊥) → Taken q x value path reference k k false
  taken_none h =
      taken_not (λ f. ap (λ (z : Bool). z && wants q y) (unfilled k value path reference x.value x.path long x.value_fits x.path_fits (λ e l m. h e m))) refl

  module _ (k₁ : List ℕ) (same : known_strings x k₁ ≡ known_strings x k) where
    -- it does not match
    pub taken_out : (FirstBytes (region k path_at x.path ++ path) → wants q y ≡ false) → Taken q x value path reference k k₁ false
    taken_out h = taken_not (λ f. and_false (has_slot y) (wants q y) (h f)) same

    -- it matches, and has a slot or not
    taken_in : {k' : List ℕ} → (FirstBytes (region k path_at x.path ++ path) → wants q y ≡ true) → has_slot y ≡ true → k' ≡ key_slot y → Taken q x value path reference k k' true
    unfolding takes
    taken_in w h e =
        record {
          fits = λ z. h;
          is = λ f. sym (and_both h (w f));
          slot = λ z. e;
          kept = ap (known x.value x.path) e ∙ slot_kept k value path reference x.value x.path long x.value_fits x.path_fits h;
        }

    pub taken_slot : (k' : List ℕ) (r : Bool) → (FirstBytes (region k path_at x.path ++ path) → wants q y ≡ true) → r ≡ has_slot (suffix_key (known_strings x k₁) value path reference)
        → k' ≡ cond r (key_slot (suffix_key (known_strings x k₁) value path reference)) k₁ → Taken q x value path reference k k' r
    taken_slot k' r w h e =
        let z : suffix_key (known_strings x k₁) value path reference ≡ y = ap (λ (s : Strings). suffix_key s value path reference) same in
        slotted_or r k' w (h ∙ ap has_slot z) (e ∙ ap (λ (u : Key). cond r (key_slot u) k₁) z)
      where
        slotted_or : (r : Bool) (k' : List ℕ) → (FirstBytes (region k path_at x.path ++ path) → wants q y ≡ true) → r ≡ has_slot y → k' ≡ cond r (key_slot y) k₁ → Taken q x value path reference k k' r
        slotted_or true k' w h e = taken_in w (sym h) e
        slotted_or false k' w h e = taken_not (λ f. rw (← h)) (ap (known x.value x.path) e ∙ same)

-- ---- the path known, in strings and in the buffer

pub node_path : (v p : ℕ) (k a b : List ℕ) → at 1 (join (known v p k) (a ∷ b ∷ [])) ≡ region k path_at p ++ b
unfolding join known
node_path v p k a b = refl

pub key_path : (v p : ℕ) (k value path reference : List ℕ) → at 1 (suffix_key (known v p k) value path reference).strings ≡ region k path_at p ++ path
unfolding under join known
key_path v p k value path reference = refl

-- ---- what was asked once holds as long as what is known stays

pub common_kept : {q : Query} {above : Option Dimension} {x : Known} {k k' : List ℕ} {r : Common} → InCommon q above x k r → known_strings x k' ≡ known_strings x k → InCommon q above x k' r
unfolding known
common_kept {q} {above} {x} {k} {k'} c e =
    let a : take x.value k' ≡ take x.value k = cc in
    let b : region k' path_at x.path ≡ region k path_at x.path = cc in
    record { bytes = λ o l. rw a (c.bytes o l); path = λ o f. rw b (c.path o (rw b at f)); value = λ z o. rw a (c.value z o); single = λ y. rw e (c.single y) }

pub span_kept : {q : Query} {n from to : ℕ} (v p : ℕ) (k k' : List ℕ) → Spans q (take v k) n from to → known v p k' ≡ known v p k → Spans q (take v k') n from to
unfolding known
span_kept v p k k' s e = let a : take v k' ≡ take v k = cc in rw a s

-- the value bytes known, as strings
pub known_span : {q : Query} {n from to : ℕ} (v p : ℕ) (k : List ℕ) → Spans q (take v k) n from to → Spans q (at 0 (known v p k)) n from to
unfolding known
known_span v p k s = s

pub known_long : (v p : ℕ) (k : List ℕ) → length (at 0 (known v p k)) ≡ length (take v k)
unfolding known
known_long v p k = refl

-- the value bytes of a suffix are the first behind its reference
pub tail_value : {b : List ℕ} {x : Suffix} → SuffixStands b x → take (length x.value.now) (drop 22 b) ≡ x.value.now
tail_value {b} {x} w =
    let lead = w.lead ++ x.reference.now in
    let long : length lead ≡ 22 = omega (arith, length-append w.lead x.reference.now, w.lead_long, w.reference_long) in
    let is : b ≡ lead ++ (x.value.now ++ (x.path.now ++ x.rest.now)) = w.is ∙ sym (append_assoc w.lead x.reference.now (x.value.now ++ (x.path.now ++ x.rest.now))) in
    ap (λ (t : List ℕ). take (length x.value.now) (drop 22 t)) is
    ∙ ap (λ (t : List ℕ). take (length x.value.now) t) (drop_at lead _ 22 long)
    ∙ take_at x.value.now (x.path.now ++ x.rest.now) (length x.value.now) refl
