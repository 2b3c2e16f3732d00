-- A stretch of a list between two places, as a part of a slice is lent. Assumes nothing.
use mathlib.Core.Path.{◌≡◌, sym, ap, ◌∙◌}
use Prim.Native.Nat.{ℕ, ◌+◌, ◌-◌, ◌≤◌}
use mathlib.Core.List.{List, ◌++◌}
use native.Mathlib.Omega.{arith}
use lib.ListN.{length, drop, length-append, length-take, length-drop, take-append-drop}
use Rattle.trie_read.specs.Shape.{part}
use lib.Seq.{drop_at, take_at, take_all, drop-drop}

pub length_part : (t : List ℕ) (a e : ℕ) → e ≤ length t → length (part a e t) ≡ e - a
length_part t a e h = simp (length-take, length-drop) (omega arith)

-- a stretch between what stands before it and what follows
pub part_at : (a b c : List ℕ) (m n : ℕ) → length a ≡ m → m + length b ≡ n → part m n (a ++ (b ++ c)) ≡ b
part_at a b c m n h k =
    let l : length b ≡ n - m = omega arith in
    rw (drop_at a (b ++ c) m h) (take_at b c (n - m) l)

-- the last stretch
pub part_end : (w a b : List ℕ) (m : ℕ) → w ≡ a ++ b → length a ≡ m → part m (length w) w ≡ b
part_end w a b m e h =
    let l : length b ≤ length (a ++ b) - m = omega (arith, length-append a b) in
    rw (e, drop_at a b m h) (take_all _ b l)

-- all from m on
pub part_from : (w : List ℕ) (m : ℕ) → part m (length w) w ≡ drop m w
part_from w m = take_all (length w - m) (drop m w) (rw length-drop (omega arith))

-- what stands from m on, cut at n
pub cut : (m n : ℕ) (w : List ℕ) → m ≤ n → drop m w ≡ part m n w ++ drop n w
cut m n w h =
    let e : m + (n - m) ≡ n = omega arith in
    sym (take-append-drop (n - m) (drop m w)) ∙ ap (λ (x : List ℕ). part m n w ++ x) (drop-drop (n - m) m w ∙ ap (λ (k : ℕ). drop k w) e)

pub cut_last : (n : ℕ) (w : List ℕ) → drop n w ≡ part n (length w) w
cut_last n w = sym (part_from w n)
