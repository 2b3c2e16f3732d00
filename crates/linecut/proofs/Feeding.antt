-- Feeding byte by byte hands over the lines of the input, and the state holds what the begun line needs. Assumes nothing.
use mathlib.Core.Path.{◌≡◌, refl, sym, ap, ◌∙◌}
use mathlib.Core.List.{List, [], ◌∷◌, ◌++◌, map}
use mathlib.Core.Bool.{Bool, true, false, cond}
use Prim.Native.Nat.{ℕ, ◌+◌, ◌≤◌, ◌<◌}
use native.Mathlib.Omega.{arith}
use native.Mathlib.Numerals.{add-one}
use lib.ListN.{length, take, set, length-append, length-set}
use lib.Seq.{take-suc-set}
use lib.Dec.{leb, eqb}
use borrow.Author.Tests.{leb-true, leb-false, le-leb, lt-leb, eq-eqb, ne_eqb, lt-ltb, le-ltb}
use Rattle.buffer.specs.Lists.{none}
use Rattle.buffer.specs.Splice.{splice}
use Rattle.buffer.proofs.Splice.{set_splice}
use Rattle.linecut.specs.Input.{lines_from, lines_of, Given, given, begun_after, on_byte, on_end, Holds, told, Within, event_of, Fed, Runs, pushed_event, pushed_len, pushed_buffer, PushedAs, finished_event}
use Rattle.linecut.specs.Input.Runs.{finishes, pushes}
use Rattle.std.proofs.Common.{Some, None}
use Rattle.linecut.specs.declared.lines.Cut.{Cut}
use Rattle.linecut.specs.declared.lines.Cut.TheVariants.{Line, Long}

-- ---- what is fed is handed over line by line

-- what is handed over for the rest s of an input
unfoldable pub fed : List ℕ → List ℕ → List Given
fed begun [] = on_end begun
fed begun (b ∷ s) = on_byte begun b ++ fed (begun_after begun b) s

pub fed_lines : (s begun : List ℕ) → fed begun s ≡ map given (lines_from begun s)
unfolding fed lines_from on_byte on_end begun_after
fed_lines [] begun = go (none begun)
  where
    go : (t : Bool) → cond t [] (given begun ∷ []) ≡ map given (cond t [] (begun ∷ []))
    go true = refl
    go false = refl
fed_lines (b ∷ s) begun = go (eqb b 10) (fed_lines s []) (fed_lines s (begun ++ (b ∷ [])))
  where
    go : (t : Bool) → fed [] s ≡ map given (lines_from [] s) → fed (begun ++ (b ∷ [])) s ≡ map given (lines_from (begun ++ (b ∷ [])) s)
        → cond t (given begun ∷ []) [] ++ fed (cond t [] (begun ++ (b ∷ []))) s ≡ map given (cond t (begun ∷ lines_from [] s) (lines_from (begun ++ (b ∷ [])) s))
    go true p q = ap (λ (l : List Given). given begun ∷ l) p
    go false p q = q

-- ---- the state

pub holds_start : (buf : List ℕ) → length buf ≡ 512 → Holds 0 buf []
holds_start buf h = record { room = h; fits = λ _. (refl, refl); over = λ k. absurd (omega arith) }

-- a line of at most 512 bytes, or a longer one
pub by_length : {P : Type 0} (n : ℕ) → (n ≤ 512 → P) → (512 < n → P) → P
by_length {P} n f g = go (leb n 512) refl
  where
    go : (t : Bool) → leb n 512 ≡ t → P
    go true e = f (leb-true n 512 e)
    go false e = g (leb-false n 512 e)

-- how a line is cut off that has at most 512 bytes
pub event_line : (n : ℕ) → n ≤ 512 → Line n ≡ event_of n
unfolding event_of
event_line n h = rw (le-leb n 512 h)

-- .. and that has more
pub event_long : (len : ℕ) → 512 < len → event_of len ≡ Long
unfolding event_of
event_long len h = rw (lt-leb len 512 h)

module _ (len : ℕ) (buf begun : List ℕ) (h : Holds len buf begun) where
  -- the end of the input
  pub end_none : len ≡ 0 → [] ≡ on_end begun
  unfolding on_end
  end_none e = none_begun begun (by_length (length begun) (λ k. sym (h.fits k).0 ∙ e) (λ k. absurd (omega (arith, h.over k))))
    where
      none_begun : (l : List ℕ) → length l ≡ 0 → [] ≡ cond (none l) [] (given l ∷ [])
      none_begun [] e = refl
      none_begun (x ∷ l) e = absurd (omega arith)

  -- a byte: one more, or one too many
  pub push_more : (b : ℕ) → (b ≡ 10 → ⊥) → len < 512 → Fed begun b None (len + 1) (splice buf len (b ∷ []))
  unfolding on_byte begun_after
  push_more b ne k =
      let f : (len ≡ length begun) × (take len buf ≡ begun) = by_length (length begun) h.fits (λ o. absurd (omega (arith, h.over o))) in
      let n : length (begun ++ (b ∷ [])) ≡ len + 1 = length-append begun (b ∷ []) ∙ omega (arith, f.0) in
      let room : len < length buf = omega (arith, h.room) in
      let t : take (len + 1) (set buf len b) ≡ begun ++ (b ∷ []) = rw (add-one, take-suc-set buf len b room, f.1) in
      rw (← set_splice buf len b room)
      record {
        tells = rw (ne_eqb b 10 ne);
        holds = rw (ne_eqb b 10 ne) (record { room = length-set buf len b ∙ h.room; fits = λ _. (sym n, t); over = λ o. absurd (omega arith) });
      }

  pub push_over : (b : ℕ) → (b ≡ 10 → ⊥) → 512 ≤ len → Fed begun b None 513 buf
  unfolding on_byte begun_after
  push_over b ne k =
      let l : 512 ≤ length begun = by_length (length begun) (λ s. omega (arith, (h.fits s).0)) (λ o. omega arith) in
      let n : length (begun ++ (b ∷ [])) ≡ length begun + 1 = length-append begun (b ∷ []) in
      record {
        tells = rw (ne_eqb b 10 ne);
        holds = rw (ne_eqb b 10 ne) (record { room = h.room; fits = λ s. absurd (omega arith); over = λ _. refl });
      }

  module _ (cut : Cut) (c : cut ≡ event_of len) where
    pub ended_tells : told (Some cut) buf ≡ given begun ∷ []
    unfolding given event_of
    ended_tells = rw c (by_length (length begun)
        (λ k. rw (le-leb (length begun) 512 k, (h.fits k).0, le-leb (length begun) 512 k, ← (h.fits k).0, (h.fits k).1))
        (λ k. rw (lt-leb (length begun) 512 k, h.over k)))

    -- the end of the input, and of the line
    pub end_line : (len ≡ 0 → ⊥) → told (Some cut) buf ≡ on_end begun
    unfolding on_end
    end_line ne = ended_tells ∙ some_begun begun (λ e. by_length (length begun) (λ k. ne ((h.fits k).0 ∙ e)) (λ k. absurd (omega arith)))
      where
        some_begun : (l : List ℕ) → (length l ≡ 0 → ⊥) → given l ∷ [] ≡ cond (none l) [] (given l ∷ [])
        some_begun [] n = absurd (n refl)
        some_begun (x ∷ l) n = refl

    pub push_end : (b : ℕ) → b ≡ 10 → Fed begun b (Some cut) 0 buf
    unfolding on_byte begun_after
    push_end b e = record { tells = rw (eq-eqb b 10 e) ended_tells; holds = rw (eq-eqb b 10 e) (holds_start buf h.room) }

-- ---- the theorem: a run from the start, on whatever buffer, tells exactly the lines of its input

runs_fed : {len : ℕ} {buf s : List ℕ} {out : List Given} → Runs len buf s out → (begun : List ℕ) → Holds len buf begun → out ≡ fed begun s
unfolding fed
runs_fed (finishes {len} {buf} event f) begun h = f buf begun h
runs_fed (pushes {len} {next} {b} {buf} {after} {s} {rest} event f r) begun h =
    let p = f begun h in
    rw (p.tells, runs_fed r (begun_after begun b) p.holds)

pub runs_lines : (buf input : List ℕ) (out : List Given) → length buf ≡ 512 → Runs 0 buf input out → out ≡ map given (lines_of input)
runs_lines buf input out h r = runs_fed r [] (holds_start buf h) ∙ fed_lines input []

-- ---- what is answered for any state

module _ (len b : ℕ) (buf : List ℕ) where
  pub as_end : (cut : Cut) → cut ≡ event_of len → b ≡ 10 → PushedAs len buf b (Some cut) 0 buf
  unfolding pushed_event pushed_len pushed_buffer
  as_end cut c e =
      record { event_is = rw (eq-eqb b 10 e) (ap Some c); next_is = rw (eq-eqb b 10 e); after_is = rw (eq-eqb b 10 e) }

  pub as_more : (b ≡ 10 → ⊥) → len < 512 → PushedAs len buf b None (len + 1) (splice buf len (b ∷ []))
  unfolding pushed_event pushed_len pushed_buffer
  as_more n l =
      record { event_is = rw (ne_eqb b 10 n); next_is = rw (ne_eqb b 10 n, lt-ltb len 512 l); after_is = rw (ne_eqb b 10 n, lt-ltb len 512 l) }

  pub as_over : (b ≡ 10 → ⊥) → 512 ≤ len → PushedAs len buf b None 513 buf
  unfolding pushed_event pushed_len pushed_buffer
  as_over n l =
      record { event_is = rw (ne_eqb b 10 n); next_is = rw (ne_eqb b 10 n, le-ltb len 512 l); after_is = rw (ne_eqb b 10 n, le-ltb len 512 l) }

pub finished_none : (len : ℕ) → len ≡ 0 → None ≡ finished_event len
unfolding finished_event
finished_none len e = rw (eq-eqb len 0 e)

pub finished_line : (len : ℕ) (cut : Cut) → cut ≡ event_of len → (len ≡ 0 → ⊥) → Some cut ≡ finished_event len
unfolding finished_event
finished_line len cut c n = rw (ne_eqb len 0 n) (ap Some c)

-- a line that is told of is in the buffer
module _ (len size : ℕ) (h : size ≡ 512) where
  event_within : Within (Some (event_of len)) size
  unfolding event_of
  event_within = go (leb len 512) refl
    where
      go : (t : Bool) → leb len 512 ≡ t → Within (Some (cond t (Line len) Long)) size
      go true e = omega (arith, leb-true len 512 e)
      go false e = tt

  pub pushed_within : (b : ℕ) → Within (pushed_event len b) size
  unfolding pushed_event
  pushed_within b = go (eqb b 10)
    where
      go : (t : Bool) → Within (cond t (Some (event_of len)) None) size
      go true = event_within
      go false = tt

  pub finished_within : Within (finished_event len) size
  unfolding finished_event
  finished_within = go (eqb len 0)
    where
      go : (t : Bool) → Within (cond t None (Some (event_of len))) size
      go true = tt
      go false = event_within
