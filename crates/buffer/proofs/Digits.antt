-- The laws of numbers in bytes, for any width: bytes and back, back and bytes, and a number in two parts. Assumes nothing.
use mathlib.Core.Path.{◌≡◌, refl, sym, ap, ◌∙◌}
use mathlib.Core.Bool.{true}
use Prim.Native.Nat.{ℕ, zero, suc, ◌+◌, ◌*◌, ◌/◌, ◌%◌, ◌^◌, ◌≤◌, ◌<◌}
use mathlib.Core.List.{List, [], ◌∷◌, ◌++◌}
use native.Mathlib.Omega.{arith}
use native.Mathlib.Nat.{div-add-mod', mul_assoc, add-mul, zero-mul, pow-suc, mul-le-mul_right, one-le-pow, zero-lt-suc, mod-lt, div-lt_iff_lt-mul, pow-succ', div-div-eq-div-mul, div-one, mul_comm}
use lib.ListN.{length, get_or, length-append}
use lib.Pow.{pow-add}
use lib.Seq.{take_all}
use lib.Arith.{digits_div, digits_mod, mod-mul}
use borrow.Author.Tests.{ltb-true, lt-ltb}
use Rattle.std.specs.Int.{w32, w64, from_be_bytes, to_be_bytes}
use Rattle.std.proofs.lemmas.Nat.{be_bytes_4, be_bytes_8}
use Rattle.buffer.specs.Lists.{all}
use Rattle.buffer.specs.Splice.{region}
use Rattle.buffer.specs.Numbers.{bytes_of, number, byte}
use Rattle.buffer.proofs.Splice.{length_region, region_cons, region_add}
use Rattle.buffer.proofs.Tests.{and_left, and_right}

bytes_of_zero : (n : ℕ) → bytes_of 0 n ≡ []
unfolding bytes_of
bytes_of_zero n = refl

bytes_of_suc : (k n : ℕ) → bytes_of (suc k) n ≡ n / 256 ^ k ∷ bytes_of k (n % 256 ^ k)
unfolding bytes_of
bytes_of_suc k n = refl

number_cons : (b : ℕ) (s : List ℕ) → number (b ∷ s) ≡ b * 256 ^ length s + number s
unfolding number
number_cons b s = refl

pub length_bytes_of : (k n : ℕ) → length (bytes_of k n) ≡ k
unfolding bytes_of
length_bytes_of zero n = refl
length_bytes_of (suc k) n = ap suc (length_bytes_of k (n % 256 ^ k))

number_1 : (n : ℕ) → number (bytes_of 1 n) ≡ n
unfolding bytes_of number
number_1 n = omega arith

-- the digits of n, the highest of them not reduced, are n
pub number_bytes_of : (k n : ℕ) → number (bytes_of (suc k) n) ≡ n
number_bytes_of zero n = number_1 n
number_bytes_of (suc k) n =
    rw (bytes_of_suc, number_cons, length_bytes_of (suc k) (n % 256 ^ suc k), number_bytes_of k (n % 256 ^ suc k)) (div-add-mod' n (256 ^ suc k))

-- bytes side by side
pub number_append : (s t : List ℕ) → number (s ++ t) ≡ number s * 256 ^ length t + number t
unfolding number
number_append [] t = rw (zero-mul (256 ^ length t)) (omega arith)
number_append (b ∷ s) t =
    rw (length-append s t, pow-add 256 (length s) (length t), number_append s t, add-mul (b * 256 ^ length s) (number s) (256 ^ length t), mul_assoc b (256 ^ length s) (256 ^ length t))
    (omega arith)

positive : (k : ℕ) → 1 ≤ 256 ^ k
positive k = one-le-pow k 256 (zero-lt-suc 255)

-- bytes are below the power of their number
pub number_below : (s : List ℕ) → all byte s ≡ true → number s < 256 ^ length s
unfolding number
number_below [] a = omega arith
number_below (b ∷ s) a =
    let h : b < 256 = ltb-true b 256 (and_left (byte b) (all byte s) a) in
    let l : b * 256 ^ length s ≤ 255 * 256 ^ length s = mul-le-mul_right (256 ^ length s) (omega arith) in
    let g = number_below s (and_right (byte b) (all byte s) a) in
    rw (pow-suc 256 (length s)) (omega arith)

-- a number that k bytes can hold has only bytes
pub bytes_of_bytes : (k n : ℕ) → n < 256 ^ k → all byte (bytes_of k n) ≡ true
unfolding bytes_of
bytes_of_bytes zero n h = refl
bytes_of_bytes (suc k) n h =
    let q : n / 256 ^ k < 256 = (div-lt_iff_lt-mul (positive k)).1 (rw (pow-succ' 256 k) at h) in
    rw (lt-ltb (n / 256 ^ k) 256 q) (bytes_of_bytes k (n % 256 ^ k) (mod-lt n (positive k)))

-- bytes are the digits of their number
pub bytes_of_number : (s : List ℕ) → all byte s ≡ true → bytes_of (length s) (number s) ≡ s
bytes_of_number [] a = bytes_of_zero (number [])
bytes_of_number (b ∷ s) a =
    let rest = and_right (byte b) (all byte s) a in
    let low = number_below s rest in
    rw (bytes_of_suc, number_cons, digits_div b low, digits_mod b low, bytes_of_number s rest)

-- a number in more bytes is its higher part and its lower part
pub bytes_of_add : (j k n : ℕ) → bytes_of (suc (j + k)) n ≡ bytes_of (suc j) (n / 256 ^ k) ++ bytes_of k (n % 256 ^ k)
bytes_of_add zero k n =
    let z : zero + k ≡ k = omega arith in
    let one : n / 256 ^ k / 256 ^ 0 ≡ n / 256 ^ k = div-one (n / 256 ^ k) in
    rw (z, bytes_of_suc k n, bytes_of_suc 0 (n / 256 ^ k), bytes_of_zero, one)
bytes_of_add (suc j) k n =
    let z : suc j + k ≡ suc (j + k) = omega arith in
    let p : 256 ^ suc (j + k) ≡ 256 ^ suc j * 256 ^ k = ap (λ (i : ℕ). 256 ^ i) (sym z) ∙ pow-add 256 (suc j) k in
    let m : n % 256 ^ suc (j + k) ≡ (n / 256 ^ k % 256 ^ suc j) * 256 ^ k + n % 256 ^ k = rw p (mod-mul n (positive (suc j)) (positive k)) in
    let low = mod-lt n (positive k) in
    let q : n / 256 ^ suc (j + k) ≡ n / 256 ^ k / 256 ^ suc j = rw (p, mul_comm (256 ^ suc j) (256 ^ k)) (sym (div-div-eq-div-mul n (256 ^ k) (256 ^ suc j))) in
    rw (z, bytes_of_suc (suc (j + k)) n, bytes_of_add j k (n % 256 ^ suc (j + k)), m, digits_div (n / 256 ^ k % 256 ^ suc j) low, digits_mod (n / 256 ^ k % 256 ^ suc j) low, q)
    (rw (bytes_of_suc (suc j) (n / 256 ^ k)))

-- eight bytes are two times four
pub bytes_of_8 : (x : ℕ) → bytes_of 8 x ≡ bytes_of 4 (x / 4294967296) ++ bytes_of 4 (x % 4294967296)
bytes_of_8 x = bytes_of_add 3 4 x

-- four digits as code computes them
pub bytes_of_4 : (x : ℕ) → bytes_of 4 x ≡ x / 16777216 ∷ x / 65536 % 256 ∷ x / 256 % 256 ∷ x % 256 ∷ []
unfolding bytes_of
bytes_of_4 x =
    let e1 : x % 16777216 / 65536 ≡ x / 65536 % 256 = omega arith in
    let e2 : x % 16777216 % 65536 / 256 ≡ x / 256 % 256 = omega arith in
    let e3 : x % 16777216 % 65536 % 256 / 1 ≡ x % 256 = omega arith in
    rw (e1, e2, e3)

digits : (a b c d : ℕ) → number (a ∷ b ∷ c ∷ d ∷ []) ≡ a * 16777216 + b * 65536 + c * 256 + d
unfolding number
digits a b c d = omega arith

pub number_4 : (s : List ℕ) (o : ℕ) → o + 4 ≤ length s
    → number (region s o 4) ≡ get_or s o 0 * 16777216 + get_or s (o + 1) 0 * 65536 + get_or s (o + 2) 0 * 256 + get_or s (o + 3) 0
number_4 s o h =
    let e2 : o + 1 + 1 ≡ o + 2 = omega arith in
    let e3 : o + 2 + 1 ≡ o + 3 = omega arith in
    let r3 : region s (o + 3) 1 ≡ get_or s (o + 3) 0 ∷ [] = region_cons s (o + 3) 0 (omega arith) in
    let r2 : region s (o + 2) 2 ≡ get_or s (o + 2) 0 ∷ get_or s (o + 3) 0 ∷ [] = region_cons s (o + 2) 1 (omega arith) ∙ rw (e3, r3) in
    let r1 : region s (o + 1) 3 ≡ get_or s (o + 1) 0 ∷ get_or s (o + 2) 0 ∷ get_or s (o + 3) 0 ∷ [] = region_cons s (o + 1) 2 (omega arith) ∙ rw (e2, r2) in
    rw (region_cons s o 3 (omega arith), r1) (digits _ _ _ _)

-- eight bytes are two times four
pub number_8 : (s : List ℕ) (o : ℕ) → o + 8 ≤ length s → number (region s o 8) ≡ number (region s o 4) * 4294967296 + number (region s (o + 4) 4)
number_8 s o h =
    let l : length (region s (o + 4) 4) ≡ 4 = length_region s (o + 4) 4 (omega arith) in
    rw (region_add s o 4 4, number_append (region s o 4) (region s (o + 4) 4), l)

-- ---- what std reads and writes, highest byte first

pub four_read : (s : List ℕ) → length s ≡ 4 → from_be_bytes w32 s ≡ number s
four_read s l =
    let all : region s 0 4 ≡ s = take_all 4 s (omega arith) in
    omega (arith, rw all at (number_4 s 0 (omega arith)))

pub eight_read : (s : List ℕ) → length s ≡ 8 → from_be_bytes w64 s ≡ number s
eight_read s l =
    let all : region s 0 8 ≡ s = take_all 8 s (omega arith) in
    omega (arith, rw all at (number_8 s 0 (omega arith)), number_4 s 0 (omega arith), number_4 s 4 (omega arith))

-- four digits, one by one
pub four_digits : (a b c d : ℕ) → from_be_bytes w32 (a ∷ b ∷ c ∷ d ∷ []) ≡ a * 16777216 + b * 65536 + c * 256 + d
four_digits a b c d = four_read (a ∷ b ∷ c ∷ d ∷ []) refl ∙ digits a b c d

byte_at : (s : List ℕ) → all byte s ≡ true → (i : ℕ) → get_or s i 0 < 256
byte_at [] a i = omega arith
byte_at (b ∷ s) a zero = ltb-true b 256 (and_left (byte b) (all byte s) a)
byte_at (b ∷ s) a (suc i) = byte_at s (and_right (byte b) (all byte s) a) i

pub four_written : (x : ℕ) → x < 2 ^ 32 → to_be_bytes w32 x ≡ bytes_of 4 x
four_written x h =
    let l = length_bytes_of 4 x in
    be_bytes_4 (bytes_of 4 x) x l (byte_at (bytes_of 4 x) (bytes_of_bytes 4 x h)) (sym (four_read (bytes_of 4 x) l ∙ number_bytes_of 3 x))

pub eight_written : (x : ℕ) → x < 2 ^ 64 → to_be_bytes w64 x ≡ bytes_of 8 x
eight_written x h =
    let l = length_bytes_of 8 x in
    be_bytes_8 (bytes_of 8 x) x l (byte_at (bytes_of 8 x) (bytes_of_bytes 8 x h)) (sym (eight_read (bytes_of 8 x) l ∙ number_bytes_of 7 x))
