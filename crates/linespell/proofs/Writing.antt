-- Writers one after another, and the turn of the hex loop. Assumes nothing.
use mathlib.Core.Path.{◌≡◌, refl, sym, ap, ◌∙◌}
use mathlib.Core.List.{List, [], ◌∷◌, ◌++◌, append_assoc}
use Prim.Native.Nat.{ℕ, min, ◌+◌, ◌-◌, ◌*◌, ◌/◌, ◌%◌, ◌≤◌, ◌<◌}
use native.Mathlib.Omega.{arith}
use native.Mathlib.Numerals.{add-one}
use lib.ListN.{length, get_or, take, drop, set, length-append, length-drop, length-set}
use Rattle.std.proofs.lemmas.List.{take_min}
use lib.Seq.{take-suc, length-take-le}
use Rattle.buffer.specs.Splice.{splice, region}
use Rattle.buffer.proofs.Splice.{set_splice, splice_nil, splice_next, length_splice, length_region}
use Rattle.linespell.specs.Spelling.{glyph, hex, Wrote}
use Rattle.linespell.specs.Put.{Put}
use Rattle.linespell.specs.declared.spell.Line.{Line}

-- two writers, the second where the first ended
pub then : {s t u a b : List ℕ} {at p q : ℕ} → Wrote s at a t p → Wrote t p b u q → Wrote s at (a ++ b) u q
then {s} {t} {u} {a} {b} {at} {p} {q} x y =
    let l : length t ≡ length s = ap length x.is ∙ length_splice s at a x.room in
    let n : length (a ++ b) ≡ length a + length b = length-append a b in
    let e : u ≡ splice (splice s at a) (at + length a) b = y.is ∙ rw (x.is, x.ends) in
    record { is = e ∙ splice_next s at a x.room b; ends = omega arith; room = omega arith }

pub put_one : {line after : Line} {b : ℕ} → line.at < length line.out.now → after.out.now ≡ set line.out.now line.at b → after.at ≡ line.at + 1
    → after.out.ghost_name ≡ line.out.ghost_name → Put line (b ∷ []) after
put_one {line} {after} {b} h e f g =
    record { wrote = record { is = e ∙ set_splice line.out.now line.at b h; ends = f; room = omega arith }; kept = ap length e ∙ length-set line.out.now line.at b; same = g }

-- two writers
pub put_then : {a m c : Line} {x y : List ℕ} → Put a x m → Put m y c → Put a (x ++ y) c
put_then p q = record { wrote = then p.wrote q.wrote; kept = q.kept ∙ p.kept; same = q.same ∙ p.same }

pub wrote_nothing : (s : List ℕ) (at : ℕ) → at ≤ length s → Wrote s at [] s at
wrote_nothing s at h = record { is = sym (splice_nil s at); ends = omega arith; room = omega arith }

pub length_hex : (s : List ℕ) → length (hex s) ≡ 2 * length s
unfolding hex
length_hex [] = refl
length_hex (b ∷ s) = omega (arith, length_hex s)

hex_more : (s : List ℕ) (b : ℕ) → hex (s ++ (b ∷ [])) ≡ hex s ++ (glyph (b / 16) ∷ glyph (b % 16) ∷ [])
unfolding hex
hex_more [] b = refl
hex_more (x ∷ s) b = ap (λ (l : List ℕ). glyph (x / 16) ∷ glyph (x % 16) ∷ l) (hex_more s b)

pub hex_next : (s : List ℕ) (i : ℕ) → i < length s → hex (take (i + 1) s) ≡ (hex (take i s) ++ (glyph (get_or s i 0 / 16) ∷ [])) ++ (glyph (get_or s i 0 % 16) ∷ [])
hex_next s i h = rw (add-one, take-suc s i 0 h, hex_more (take i s) (get_or s i 0), append_assoc (hex (take i s)) (glyph (get_or s i 0 / 16) ∷ []) (glyph (get_or s i 0 % 16) ∷ []))

-- a path length that the row cannot hold is as good as 200
pub path_clipped : (row : List ℕ) (m n : ℕ) → length row ≡ 229 → m ≡ get_or row 28 0 → n ≡ min m 200
    → (length (take (29 + n - 29) (drop 29 row)) ≤ 200) × (take (29 + n - 29) (drop 29 row) ≡ region row 29 (get_or row 28 0))
path_clipped row m n l p q =
    let d : length (drop 29 row) ≡ 200 = length-drop 29 row ∙ omega arith in
    let e : 29 + n - 29 ≡ n = omega arith in
    rw e (omega (arith, length-take-le n (drop 29 row) (omega arith)), rw (← p) (rw (q, ← d) (take_min m (drop 29 row))))

-- the digits of a row's reference
pub length_reference : (row : List ℕ) → length row ≡ 229 → length (hex (take 20 (drop 8 row))) ≡ 40
length_reference row l = length_hex (take 20 (drop 8 row)) ∙ ap (λ (m : ℕ). 2 * m) (length_region row 8 20 (omega arith))
