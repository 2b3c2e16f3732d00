-- The loop over the parts of a set: some tries are built, the others are still to come; one part more. Assumes nothing.
use mathlib.Core.Path.{◌≡◌, refl, sym, ap, ◌∙◌}
use mathlib.Core.Bool.{true}
use Prim.Native.Nat.{ℕ, ◌+◌, ◌≤◌, ◌<◌}
use mathlib.Core.List.{List, [], ◌++◌, map}
use native.Mathlib.Omega.{arith}
use lib.ListN.{length, take, drop, length-append, length-map}
use Rattle.buffer.specs.Lists.{all, All, flat}
use Rattle.buffer.specs.Splice.{splice}
use Rattle.buffer.proofs.Lists.{all_head, all_tail}
use Rattle.entries.specs.Slots.{slot_key, short_path}
use Rattle.trie_theory.specs.Forest.{Strings, Key}
use Rattle.trie_theory.specs.Strings.{at}
use Rattle.trie_theory.specs.Dimensions.{below}
use Rattle.trie_theory.specs.Position.{shared}
use Rattle.trie_theory.proofs.LevelBytes.{bytes_of}
use Rattle.trie_theory.proofs.Fall.{undecided}
use Rattle.trie_theory.proofs.Prefix.{From, prefixes_at, prefix_length}
use Rattle.trie_theory.proofs.Parts.{Partition, done, part}
use Rattle.trie_sets.proofs.Slotted.{all_first, all_behind}
use Rattle.trie_build.specs.Steps.{trie_bytes, Run}
use Rattle.trie_build.proofs.Columns.{column}
use Rattle.trie_build.proofs.Runs.{Taken, first_part}
use Rattle.trie_build.proofs.Noding.{part_bytes}
use Rattle.trie_build.proofs.Wrote.{Wrote, wrote_none, wrote_all, wrote_more, sum}

-- the bytes of tries side by side
abbrev pub bytes_for : ℕ → ℕ → Strings → List (List Key) → List ℕ
bytes_for τ d p ps = flat (map (bytes_of 2 τ (below d) p) ps)

-- Of the parts `whole`, which part in dimension d behind p, those of the slots `rs` are still to be built; the others are built from `body` up to o.
-- Each part has fewer than u undecided bytes
pub record Going (s₀ : List ℕ) (body τ d : ℕ) (p : Strings) (u : ℕ) (whole : List (List Key)) (rs : List (List ℕ)) (s : List ℕ) (o : ℕ) : Type 0 where
  pub left : List (List Key)
  pub least : ℕ
  pub keys : map slot_key rs ≡ flat left
  pub split : Partition d p (From p) least left
  pub falls : All (λ q. undecided q < u) left
  pub short : all short_path rs ≡ true
  pub wrote : Wrote s₀ body (bytes_for τ d p left) (bytes_for τ d p whole) s o

pub going_start : (s : List ℕ) (body τ d : ℕ) (p : Strings) (u : ℕ) (whole : List (List Key)) (rs : List (List ℕ)) → map slot_key rs ≡ flat whole
    → Partition d p (From p) 0 whole → All (λ q. undecided q < u) whole → all short_path rs ≡ true → Going s body τ d p u whole rs s body
going_start s body τ d p u whole rs e a f t =
    record { left = whole; least = 0; keys = e; split = a; falls = f; short = t; wrote = wrote_none s body (bytes_for τ d p whole) }

module _ {s₀ : List ℕ} {body τ d : ℕ} {p : Strings} {u : ℕ} {whole : List (List Key)} {rs : List (List ℕ)} {s : List ℕ} {o : ℕ}
    (g : Going s₀ body τ d p u whole rs s o) (room : body + length (bytes_for τ d p whole) ≤ length s₀) where
  -- no slot is left: all is built
  pub going_end : length rs ≡ 0 → (s ≡ splice s₀ body (bytes_for τ d p whole)) × (o ≡ body + length (bytes_for τ d p whole))
  unfolding flat
  going_end e = wrote_all g.wrote (none g.split g.keys)
    where
      none : {b : ℕ} {left : List (List Key)} → Partition d p (From p) b left → map slot_key rs ≡ flat left → bytes_for τ d p left ≡ []
      none done q = refl
      none (part {x = x} {xs = xs} {ps = ps} c h v a r) q = absurd (omega (arith, length-map rs slot_key, ap length q))

  -- one part more: the run of r slots
  module _ (small : d < 2) (two : length p ≡ 2) (r : ℕ) (w : Run rs (column d p) r) where
    taken : Taken d p rs r g.left
    taken = first_part d p small (omega arith) rs r w g.split g.keys

    abbrev set : List Key
    set = map slot_key (take r rs)

    pub set_value : length (at 0 p) ≤ length (at 0 (shared set))
    set_value = prefix_length (at 0 p) (at 0 (shared set)) (prefixes_at 0 p (shared set) taken.from)

    pub set_path : length (at 1 p) ≤ length (at 1 (shared set))
    set_path = prefix_length (at 1 p) (at 1 (shared set)) (prefixes_at 1 p (shared set) taken.from)

    pub set_falls : undecided set < u
    set_falls = all_head (rw taken.is at g.falls)

    abbrev own : List ℕ
    own = trie_bytes τ (below d) (length (at 0 p)) (length (at 1 p)) set

    next : bytes_for τ d p g.left ≡ own ++ bytes_for τ d p taken.rest
    unfolding flat
    next =
        ap (bytes_for τ d p) taken.is
        ∙ ap (λ (b : List ℕ). b ++ bytes_for τ d p taken.rest) (sym (part_bytes τ d p set two taken.from))

    pub set_room : o + length own ≤ length s₀
    set_room = omega (arith, sum g.wrote room, g.wrote.to, ap length next ∙ length-append own (bytes_for τ d p taken.rest))

    pub set_most : length own ≤ length (bytes_for τ d p whole)
    set_most = omega (arith, sum g.wrote room, ap length next ∙ length-append own (bytes_for τ d p taken.rest))

    pub set_short : all short_path (take r rs) ≡ true
    set_short = all_first short_path r rs g.short

    pub going_more : (s' : List ℕ) (o' : ℕ) → s' ≡ splice s o own → o' ≡ o + length own → Going s₀ body τ d p u whole (drop r rs) s' o'
    going_more s' o' b e =
        record {
          left = taken.rest;
          least = taken.least;
          keys = taken.after;
          split = taken.split;
          falls = all_tail (rw taken.is at g.falls);
          short = all_behind short_path r rs g.short;
          wrote = rw e (wrote_more g.wrote room own (bytes_for τ d p taken.rest) s' next b);
        }
