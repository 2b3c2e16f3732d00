-- The reply of the book that a call's result is. Assumes nothing: these are definitions.
use Rattle.std.specs.Prelude.{ℕ, Result, Ok, Err}
use Rattle.book.specs.Replies as Book
use Rattle.store.specs.declared.refusal.Refusal.{Refusal}
use Rattle.store.specs.declared.refusal.Refusal.TheVariants.{PathMalformed, PathTooLong, ReferenceSize, NoStore, OutsideLimits, TooLittleMemory, PatternMalformed, PatternTooLong, Full, EmptyRange, NoRoom}

-- DOCUMENT 01'S NUMBER AND VALUES for each case
abbrev pub refused : Refusal → Book.Reply
refused PathMalformed = Book.reply 1 0 0
refused PathTooLong = Book.reply 2 0 0
refused ReferenceSize = Book.reply 3 0 0
refused NoStore = Book.reply 4 0 0
refused OutsideLimits = Book.reply 5 0 0
refused TooLittleMemory = Book.reply 6 0 0
refused PatternMalformed = Book.reply 7 0 0
refused PatternTooLong = Book.reply 8 0 0
refused Full = Book.reply 9 0 0
refused EmptyRange = Book.reply 10 0 0
refused (NoRoom rows) = Book.reply 11 rows 0

-- a result is the reply that its value stands for, or that of its refusal
abbrev pub said : {A : Type 0} → (A → Book.Reply) → Result A Refusal → Book.Reply
said accepted (Ok x) = accepted x
said accepted (Err e) = refused e

-- an accepted setup says 0 and two zeros
abbrev pub done : {A : Type 0} → A → Book.Reply
done x = Book.reply 0 0 0

-- a listing says its rows, and a second value
abbrev pub rows_listed : ℕ × ℕ → Book.Reply
rows_listed x = Book.reply 0 x.0 x.1
