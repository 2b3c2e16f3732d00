-- What opening a store says of it. Assumes nothing: these are definitions.
use Rattle.std.specs.Prelude.{ℕ, ◌≡◌, ◌≤◌, true, false, List, length, Option, Some, None, Result, Ok, Err}
use Rattle.book.specs.Front.{front_size, front_of, in_limits, no_store}
use Rattle.book.specs.Replies.{read_number}
use Rattle.store.specs.declared.front.Front.{Front}
use Rattle.store.specs.declared.opened.Store.{Store}
use Rattle.store.specs.declared.refusal.Refusal.{Refusal}
use Rattle.store.specs.declared.refusal.Refusal.TheVariants.{NoStore}
use Rattle.store.specs.Said.{said, done}

-- the numbers are those that the store begins with
pub record Reads (s : List ℕ) (f : Front) : Type 0 where
  pub m_is : f.m ≡ (front_of s).M
  pub l_is : f.l ≡ (front_of s).L
  pub tau_is : f.tau ≡ (front_of s).τ
  pub held_is : f.held ≡ (front_of s).held

-- they are read where there are any, and M, L and τ keep to their limits
abbrev pub FrontRead : List ℕ → Option Front → Type 0
FrontRead s (Some f) = Reads s f × (front_size ≤ length s) × (in_limits f.m f.l f.tau ≡ true)
FrontRead s None = no_store (length s) (front_of s) ≡ true

-- number 4 exactly where its reason holds
abbrev pub OpenedAs : List ℕ → Result Store Refusal → Type 0
OpenedAs s (Ok o) = (o.bytes.now ≡ s) × Reads s o.front × (no_store (length s) (front_of s) ≡ false)
OpenedAs s (Err e) = (e ≡ NoStore) × (no_store (length s) (front_of s) ≡ true)

-- the number of document 01 for each case
abbrev pub opened_number : Result Store Refusal → ℕ
opened_number o = (said done o).number

-- so it is the number that a reading back, which has no other check before 11, is refused with (proved in proofs/Opening.antt)
abbrev pub OpenedNumber : Type 0
OpenedNumber = (s : List ℕ) (o : Result Store Refusal) → OpenedAs s o → opened_number o ≡ read_number (length s) (front_of s)
