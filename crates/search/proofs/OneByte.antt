-- Where one branching byte alone leads on below a node. Assumes nothing.
use mathlib.Core.Path.{◌≡◌, refl, sym, ap, ◌∙◌}
use mathlib.Core.Bool.{Bool, true, false, ◌&&◌}
use Prim.Native.Nat.{ℕ, suc, ◌-◌, ◌≤◌, ◌<◌}
use mathlib.Core.List.{List, [], ◌∷◌, ◌++◌}
use native.Mathlib.Omega.{arith}
use lib.ListN.{length, take, get_or}
use mathlib.Core.Logic.{⊎_elim}
use lib.Seq.{length-take-le}
use Rattle.buffer.specs.Splice.{region}
use Rattle.buffer.specs.Numbers.{number}
use Rattle.buffer.proofs.Splice.{length_region}
use Rattle.buffer.proofs.Tests.{and_false, same?}
use Rattle.matcher.specs.Reach.{reach_of, goes_on, LiteralPrefix, OneLeads}
use Rattle.matcher.specs.declared.reach.Answer.{Answer}
use Rattle.matcher.specs.declared.reach.Answer.TheVariants.{Mismatch}
use Rattle.rows.specs.Sizes.{value_size, path_at}
use Rattle.rows.proofs.Compare.{less?}
use Rattle.trie_theory.specs.Forest.{Strings}
use Rattle.trie_theory.specs.Strings.{first}
use Rattle.trie_theory.specs.Dimensions.{below, branching}
use Rattle.trie_theory.specs.Sound.{Starts}
use Rattle.trie_theory.specs.Search.{enters}
use Rattle.entries.specs.Slots.{slot_size}
use Rattle.entries.specs.Query.{Query, value_reach, reaches, asked}
use Rattle.gather.specs.KeySlots.{ended_limit, known}
use Rattle.value_range.specs.Spans.{Spans}
use Rattle.search.specs.Steps.{OneByte}
use Rattle.trie_read.specs.Shape.{above_of}
use Rattle.trie_read.specs.declared.kind.Dimension.{Dimension}
use Rattle.trie_read.specs.declared.kind.Dimension.TheVariants.{Value, Path, Other}
use Rattle.std.specs.Prelude.{Option, Some, None}
use Rattle.value_range.proofs.Ranges.{with_below, with_above, too_long}
use Rattle.search.proofs.Steps.{enters_value, enters_second}

-- there is no third dimension
no_third : (d : ℕ) (a b : List ℕ) → Starts (below (suc (suc d))) (a ∷ b ∷ []) → ⊥
unfolding Starts
no_third d a b starts = starts refl

two_strings : (P : Strings → Type 0) (s : Strings) → length s ≡ 2 → ((a b : List ℕ) → P (a ∷ b ∷ [])) → P s
two_strings P [] e f = absurd (omega arith)
two_strings P (a ∷ []) e f = absurd (omega arith)
two_strings P (a ∷ b ∷ []) e f = f a b
two_strings P (a ∷ b ∷ c ∷ s) e f = absurd (omega arith)

out_of_both : (a b : Answer) → a ≡ Mismatch → goes_on a && goes_on b ≡ false
out_of_both a b e = rw e

module _ (pattern : List ℕ) (low high v p byte : ℕ) (k : List ℕ) (long : length k ≡ slot_size) where
  abbrev q : Query
  q = asked pattern low high

  -- a node with the strings s and another byte is not entered
  abbrev Refused : Option Dimension → Strings → Type 0
  Refused above s = Starts (above_of above) s → (branching (above_of above) s ≡ byte → ⊥) → enters (reaches q) (above_of above) (known v p k) s ≡ false

  module _ (h : v ≤ value_size) (spans : v < value_size → Spans q (take v k) 1 byte byte) where
    short_out : (c : ℕ) → v < value_size → (c ≡ byte → ⊥) → value_reach q (take v k ++ (c ∷ [])) ≡ Mismatch
    unfolding number
    short_out c short other =
        ⊎_elim
        (λ (y : c < byte). sym (with_below q (take v k) (c ∷ []) byte byte (spans short) (omega arith)))
        (λ (y : byte ≤ c). sym (with_above q (take v k) (c ∷ []) byte byte (spans short) (⊎_elim (λ (e : c ≡ byte). absurd (other e)) (λ (e : c ≡ byte → ⊥). omega arith) (same? c byte))))
        (less? c byte)

    value_out : (c : ℕ) → (c ≡ byte → ⊥) → value_reach q (take v k ++ (c ∷ [])) ≡ Mismatch
    value_out c other =
        ⊎_elim
        (λ (y : v ≡ value_size). sym (too_long pattern (take v k) (c ∷ []) low high (omega (arith, length-take-le v k (omega arith))) (λ z. absurd (omega arith))))
        (λ (y : v ≡ value_size → ⊥). short_out c (omega arith) other)
        (same? v value_size)

    value_pair : (a b : List ℕ) → Refused (Some Value) (a ∷ b ∷ [])
    unfolding Starts branching first
    value_pair [] b starts other = absurd (starts refl)
    value_pair (c ∷ a) b starts other =
        sym (enters_value q (Some Value) v p k (c ∷ a) b refl) ∙ out_of_both _ (reach_of pattern (region k path_at p)) (value_out c other)

    pub value_byte : (above : Option Dimension) → above ≡ Some Value → OneByte q (above_of above) (known v p k)
    value_byte above e = rw e record { byte = byte; others = λ s two. two_strings (Refused (Some Value)) s two value_pair }

  module _ {literal : ℕ} {b : Bool} (h : p ≤ ended_limit) (plain : LiteralPrefix pattern literal) (leads : OneLeads pattern literal p b) (yes : b ≡ true) (is : byte ≡ get_or pattern p 0) where
    path_out : (c : ℕ) → (c ≡ byte → ⊥) → reach_of pattern (region k path_at p ++ (c ∷ [])) ≡ Mismatch
    path_out c other = leads.others plain yes (region k path_at p) (length_region k path_at p (omega arith)) c (λ e. other (e ∙ sym is))

    path_pair : (a b : List ℕ) → Refused (Some Path) (a ∷ b ∷ [])
    unfolding Starts branching first
    path_pair a [] starts other = absurd (starts refl)
    path_pair a (c ∷ b) starts other =
        sym (enters_second q v p k a (c ∷ b) (c ∷ []) refl) ∙ and_false (goes_on (value_reach q (take v k))) _ (ap goes_on (path_out c other))

    pub path_byte : (above : Option Dimension) → (above ≡ None → ⊥) → (above ≡ Some Value → ⊥) → OneByte q (above_of above) (known v p k)
    path_byte None z o = absurd (z refl)
    path_byte (Some Value) z o = absurd (o refl)
    path_byte (Some Path) z o = record { byte = byte; others = λ s two. two_strings (Refused (Some Path)) s two path_pair }
    path_byte (Some (Other c)) z o = record { byte = byte; others = λ s two. two_strings (Refused (Some (Other c))) s two (λ a b starts other. absurd (no_third (c.byte - 3) a b starts)) }
