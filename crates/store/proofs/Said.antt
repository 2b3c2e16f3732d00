-- What is said of a refusal. Assumes nothing.
use Prim.Native.Nat.{ℕ, ◌<◌}
use mathlib.Core.Path.{◌≡◌, refl}
use native.Mathlib.Omega.{arith}
use Rattle.std.specs.Prelude.{Result, Ok, Err, ⊤}
use Rattle.matcher.specs.Form.{Form}
use Rattle.matcher.specs.declared.form.FormError.TheVariants.{TooLong, Malformed}
use Rattle.book.specs.Replies as Book
use Rattle.store.specs.Said.{refused, said, done}
use Rattle.store.specs.declared.refusal.Refusal.{Refusal}
use Rattle.store.specs.declared.refusal.Refusal.TheVariants.{PathMalformed, PathTooLong, ReferenceSize, NoStore, OutsideLimits, TooLittleMemory, PatternMalformed, PatternTooLong, Full, EmptyRange, NoRoom}

-- no refusal has number 0
pub refused_some : (e : Refusal) → 0 < (refused e).number
refused_some PathMalformed = omega arith
refused_some PathTooLong = omega arith
refused_some ReferenceSize = omega arith
refused_some NoStore = omega arith
refused_some OutsideLimits = omega arith
refused_some TooLittleMemory = omega arith
refused_some PatternMalformed = omega arith
refused_some PatternTooLong = omega arith
refused_some Full = omega arith
refused_some EmptyRange = omega arith
refused_some (NoRoom n) = omega arith

-- a form that is refused, by a table that has the number of both reasons
pub unformed_said : (number : Form → ℕ) (long bad : Refusal) → number (Ok tt) ≡ 0 → refused long ≡ Book.reply (number (Err TooLong)) 0 0
    → refused bad ≡ Book.reply (number (Err Malformed)) 0 0 → {f form : Form} {r : Result ⊤ Refusal} → f ≡ form
    → (f ≡ Ok tt → r ≡ Ok tt) → (f ≡ Err TooLong → r ≡ Err long) → (f ≡ Err Malformed → r ≡ Err bad) → said done r ≡ Book.reply (number form) 0 0
unformed_said number long bad z l b {f} {form = Ok tt} e fine too_long malformed = rw (fine e, z) refl
unformed_said number long bad z l b {f} {form = Err TooLong} e fine too_long malformed = rw (too_long e) l
unformed_said number long bad z l b {f} {form = Err Malformed} e fine too_long malformed = rw (malformed e) b
