-- The test of a branch decides what document 01 says, a matching key is never passed over, and whole keys match as their entries do.
-- Assumes nothing.
use Prim.Native.Nat.{ℕ, zero, suc, ◌+◌, ◌*◌, ◌-◌, ◌^◌, ◌≤◌, ◌<◌}
use mathlib.Core.Path.{◌≡◌, refl, sym, ap, ap₂, ◌∙◌}
use mathlib.Core.Bool.{Bool, true, false, cond, ◌&&◌, and_comm}
use mathlib.Core.List.{List, [], ◌∷◌, ◌++◌, append_assoc}
use native.Mathlib.Omega.{arith}
use Rattle.std.proofs.lemmas.List.{length-reverse, reverse-reverse}
use Rattle.std.proofs.lemmas.Bool.Decides.{nat_tests}
use native.Mathlib.Nat.{zero-mul, pow-suc, one-le-pow, zero-lt-suc}
use lib.ListN.{length, drop, replicate, length-append, length-replicate}
use lib.Dec.{eqb}
use Rattle.buffer.specs.Lists.{all}
use Rattle.buffer.specs.Numbers.{bytes_of, number, byte}
use Rattle.buffer.proofs.Tests.{and_left, and_right, and_both, bool_ext, not_both}
use Rattle.buffer.proofs.Lists.{tested_append, tested_right}
use Rattle.buffer.proofs.Digits.{length_bytes_of, number_bytes_of, number_append, number_below, bytes_of_bytes, bytes_of_number}
use Rattle.matcher.specs.Bytes.{end_byte}
use Rattle.matcher.specs.Form.{path_form, is_fine}
use Rattle.matcher.specs.Matches.{matches}
use Rattle.matcher.specs.Continued.{Continued, Told}
use Rattle.matcher.specs.Reach.{reach_of, goes_on}
use Rattle.matcher.specs.declared.reach.Answer.{Answer}
use Rattle.matcher.specs.declared.reach.Answer.TheVariants.{Match, Mismatch, Incomplete}
use Rattle.matcher.proofs.Decided.{told, continued, reach_path}
use Rattle.rows.specs.Sizes.{value_size}
use Rattle.rows.specs.Entry.{Entry}
use Rattle.trie_theory.specs.Forest.{Strings, Key}
use Rattle.trie_theory.specs.Strings.{at}
use Rattle.trie_theory.specs.Strings as Bytes
use Rattle.trie_theory.proofs.Prefix.{Prefix, all_begin_prefixes, prefixes_at}
use Rattle.trie_theory.proofs.Strings.{drop_prefix}
use Rattle.entries.specs.Keys.{entry_key}
use Rattle.entries.specs.Query.{Query, in_range, matches_entry, lowest, highest, overlaps, value_reach, is_match, reaches, wants}
use Rattle.entries.specs.Branch.{ValueContinued, CouldMatch, BranchDecided}

-- ---- numbers

number_zeros : (n : ℕ) → number (replicate n 0) ≡ 0
unfolding number
number_zeros zero = refl
number_zeros (suc n) = simp (zero-mul, number_zeros n)

number_greatest : (n : ℕ) → number (replicate n 255) + 1 ≡ 256 ^ n
unfolding number
number_greatest zero = refl
number_greatest (suc n) =
    let h = number_greatest n in
    omega (arith, ap (λ (k : ℕ). 256 ^ k) (length-replicate {A = ℕ} n 255), pow-suc 256 n)

-- the least and the greatest of the values that begin with the bytes known
pub least : (known : List ℕ) (j : ℕ) → number (known ++ replicate j 0) ≡ number known * 256 ^ j
least known j = number_append known (replicate j 0) ∙ rw (length-replicate {A = ℕ} j 0, number_zeros j) (omega arith)

pub greatest : (known : List ℕ) (j : ℕ) → number (known ++ replicate j 255) + 1 ≡ number known * 256 ^ j + 256 ^ j
greatest known j =
    let h = number_greatest j in
    rw (number_append known (replicate j 255), length-replicate {A = ℕ} j 255) (omega arith)

number_few : (j x : ℕ) → x < 256 ^ j → number (bytes_of j x) ≡ x
unfolding number bytes_of
number_few zero x h = omega arith
number_few (suc j) x h = number_bytes_of j x

-- ---- the tests as bounds

within : (q : Query) (v : ℕ) → in_range q v ≡ true → (q.low ≤ v) × (v ≤ q.high)
unfolding in_range
within q v e = (grind (arith, nat_tests), grind (arith, nat_tests))

in_bounds : (q : Query) (v : ℕ) → q.low ≤ v → v ≤ q.high → in_range q v ≡ true
unfolding in_range
in_bounds q v l h = grind (arith, nat_tests)

record Overlap (q : Query) (known : List ℕ) : Type 0 where
  some : q.low ≤ q.high
  short : length known ≤ value_size
  low : lowest known ≤ q.high
  high : q.low ≤ highest known

overlap_bounds : (q : Query) (known : List ℕ) → overlaps q known ≡ true → Overlap q known
unfolding overlaps
overlap_bounds q known e =
    record { some = grind (arith, nat_tests); short = grind (arith, nat_tests); low = grind (arith, nat_tests); high = grind (arith, nat_tests) }

bounds_overlap : (q : Query) (known : List ℕ) → Overlap q known → overlaps q known ≡ true
unfolding overlaps
bounds_overlap q known o = grind (arith, nat_tests, o.some, o.short, o.low, o.high)

lowest_is : (known : List ℕ) → lowest known ≡ number known * 256 ^ (value_size - length known)
unfolding lowest
lowest_is known = least known (value_size - length known)

highest_is : (known : List ℕ) → highest known + 1 ≡ number known * 256 ^ (value_size - length known) + 256 ^ (value_size - length known)
unfolding highest
highest_is known = greatest known (value_size - length known)

-- ---- the value

module _ (q : Query) (known : List ℕ) where
  abbrev left : ℕ
  left = value_size - length known

  value_found : all byte known ≡ true → overlaps q known ≡ true → ValueContinued q known
  value_found bytes e =
      let o = overlap_bounds q known e in
      let x = q.low - number known * 256 ^ left in
      let small : x < 256 ^ left = omega (arith, o.some, o.low, o.high, lowest_is known, highest_is known, one-le-pow left 256 (zero-lt-suc 255)) in
      let s = known ++ bytes_of left x in
      let w : number s ≡ number known * 256 ^ left + x = number_append known (bytes_of left x) ∙ rw (length_bytes_of left x, number_few left x small) in
      let eight : length s ≡ value_size = length-append known (bytes_of left x) ∙ rw (length_bytes_of left x) (omega (arith, o.short)) in
      let all_bytes : all byte s ≡ true = tested_append byte known (bytes_of left x) bytes (bytes_of_bytes left x small) in
      record {
        value = number s;
        small = rw eight at (number_below s all_bytes);
        is_in_range = in_bounds q (number s) (omega arith) (omega (arith, o.some, o.low, lowest_is known));
        more = bytes_of left x;
        goes_on = sym (rw eight at (bytes_of_number s all_bytes));
      }

  value_tested : ValueContinued q known → overlaps q known ≡ true
  value_tested v =
      let s = known ++ v.more in
      let eight : length s ≡ value_size = ap length v.goes_on ∙ length_bytes_of value_size v.value in
      let n : length v.more ≡ left = omega (arith, length-append known v.more, eight) in
      let more_bytes = tested_right byte known v.more (ap (all byte) v.goes_on ∙ bytes_of_bytes value_size v.value v.small) in
      let w : v.value ≡ number known * 256 ^ left + number v.more = sym (ap number v.goes_on ∙ number_bytes_of 7 v.value) ∙ number_append known v.more ∙ rw n in
      let b : number v.more < 256 ^ left = rw n at (number_below v.more more_bytes) in
      let r = within q v.value v.is_in_range in
      bounds_overlap q known
      (record {
        some = omega (arith, r.0, r.1);
        short = omega (arith, length-append known v.more, eight);
        low = omega (arith, lowest_is known, w, r.1);
        high = omega (arith, highest_is known, w, b, r.0);
      })

  goes_on_value : goes_on (value_reach q known) ≡ overlaps q known
  unfolding value_reach
  goes_on_value = go (overlaps q known) (eqb (length known) value_size)
    where
      go : (a b : Bool) → goes_on (cond a (cond b Match Incomplete) Mismatch) ≡ a
      go true true = refl
      go true false = refl
      go false b = refl

-- ---- the path

goes_on_path : (pattern known : List ℕ) → Continued pattern known → goes_on (reach_of pattern known) ≡ true
goes_on_path pattern known C = go (reach_of pattern known) (told pattern known)
  where
    go : (r : Answer) → Told pattern known r → goes_on r ≡ true
    go Match t = refl
    go Incomplete t = refl
    go Mismatch t = absurd (t C)

match_goes : (r : Answer) → is_match r ≡ true → goes_on r ≡ true
match_goes Match e = refl
match_goes Incomplete e = not_both e refl
match_goes Mismatch e = not_both e refl

could_match : (q : Query) (known : Strings) → all byte (at 0 known) ≡ true → reaches q known ≡ true → CouldMatch q known
unfolding reaches
could_match q known bytes e =
    let v = goes_on (value_reach q (at 0 known)) in
    let p = goes_on (reach_of q.pattern (at 1 known)) in
    record {
      value = value_found q (at 0 known) bytes (sym (goes_on_value q (at 0 known)) ∙ and_left v p e);
      path = continued q.pattern (at 1 known) (and_right v p e);
    }

could_reach : (q : Query) (known : Strings) → CouldMatch q known → reaches q known ≡ true
unfolding reaches
could_reach q known c = and_both (goes_on_value q (at 0 known) ∙ value_tested q (at 0 known) c.value) (goes_on_path q.pattern (at 1 known) c.path)

-- THE TEST OF A BRANCH
pub branch_decided : BranchDecided
branch_decided q known bytes = (could_match q known bytes, could_reach q known)

-- ---- bytes that begin others

begins_more : (k s more : List ℕ) → Prefix k s → k ++ (drop (length k) s ++ more) ≡ s ++ more
begins_more k s more h = sym (append_assoc k (drop (length k) s) more) ∙ ap (λ (l : List ℕ). l ++ more) (drop_prefix k s h)

value_before : (q : Query) (k s : List ℕ) → Prefix k s → ValueContinued q s → ValueContinued q k
value_before q k s h v =
    record {
      value = v.value;
      small = v.small;
      is_in_range = v.is_in_range;
      more = drop (length k) s ++ v.more;
      goes_on = begins_more k s v.more h ∙ v.goes_on;
    }

path_before : (pattern k s : List ℕ) → Prefix k s → Continued pattern s → Continued pattern k
path_before pattern k s h c =
    record {
      is_pattern = c.is_pattern;
      first = record {
        path = c.first.path;
        is_path = c.first.is_path;
        more = drop (length k) s ++ c.first.more;
        goes_on = begins_more k s c.first.more h ∙ c.first.goes_on;
      };
      fits = c.fits;
    }

-- what can be continued could be continued before
pub reaches_before : (q : Query) (k s : Strings) → Bytes.all_begin k s ≡ true → all byte (at 0 s) ≡ true → reaches q s ≡ true → reaches q k ≡ true
reaches_before q k s g bytes e =
    let h = all_begin_prefixes k s g in
    let c = could_match q s bytes e in
    could_reach q k
    (record {
      value = value_before q (at 0 k) (at 0 s) (prefixes_at 0 k s h) c.value;
      path = path_before q.pattern (at 1 k) (at 1 s) (prefixes_at 1 k s h) c.path;
    })

-- A KEY THAT MATCHES IS NEVER PASSED OVER: whatever it goes on from can be continued
pub never_passed : (q : Query) (k : Strings) (x : Key) → all byte (at 0 x.strings) ≡ true → Bytes.all_begin k x.strings ≡ true
    → wants q x ≡ true → reaches q k ≡ true
unfolding wants
never_passed q k x bytes g e =
    let a = value_reach q (at 0 x.strings) in
    let b = reach_of q.pattern (at 1 x.strings) in
    reaches_before q k x.strings g bytes (unfold reaches in and_both (match_goes a (and_left (is_match a) (is_match b) e)) (match_goes b (and_right (is_match a) (is_match b) e)))

-- ---- whole keys

match_when : (b : Bool) → is_match (cond b Match Mismatch) ≡ b
match_when true = refl
match_when false = refl

-- a whole value, of 8 bytes, is in range or not
module _ (q : Query) (v : ℕ) (whole : List ℕ) (eight : length whole ≡ value_size) (n : number whole ≡ v) where
  overlaps_whole : overlaps q whole ≡ in_range q v
  overlaps_whole =
      let low : lowest whole ≡ v = lowest_is whole ∙ rw (eight, n) (omega arith) in
      let high : highest whole ≡ v = let h : highest whole + 1 ≡ v * 1 + 1 = highest_is whole ∙ rw (eight, n) in omega arith in
      bool_ext _ _
      (λ e. let o = overlap_bounds q whole e in in_bounds q v (omega (arith, o.high)) (omega (arith, o.low)))
      (λ e. let r = within q v e in
      bounds_overlap q whole (record { some = omega (arith, r.0, r.1); short = omega arith; low = omega (arith, r.1); high = omega (arith, r.0) }))

  value_whole : is_match (value_reach q whole) ≡ in_range q v
  unfolding value_reach
  value_whole = rw (overlaps_whole, eight) (match_when (in_range q v))

path_whole : (pattern path : List ℕ) → is_fine (path_form path) ≡ true → is_match (reach_of pattern (path ++ (end_byte ∷ []))) ≡ matches pattern path
path_whole pattern path f = ap is_match (reach_path pattern path f) ∙ match_when (matches pattern path)

-- THE KEY OF AN ENTRY MATCHES AS THE ENTRY DOES
pub wants_entry : (q : Query) (e : Entry) → is_fine (path_form e.path) ≡ true → wants q (entry_key e) ≡ matches_entry q e
unfolding wants matches_entry entry_key
wants_entry q e f =  -- by what the bytes of the value are, not by how they are spelled
    let eight : length (at 0 (entry_key e).strings) ≡ value_size = grind (arith, length_bytes_of, length-reverse) in
    let n : number (at 0 (entry_key e).strings) ≡ e.value = grind (arith, number_bytes_of, reverse-reverse) in
    ap₂ ◌&&◌ (value_whole q e.value (at 0 (entry_key e).strings) eight n) (path_whole q.pattern e.path f) ∙ and_comm (in_range q e.value) (matches q.pattern e.path)
