-- A whole log, however its input arrives (proved in proofs/Whole.antt). Assumes nothing: these are definitions.
use Rattle.std.specs.Prelude.{◌≡◌, ℕ, List, [], ◌∷◌, ◌++◌, length, replicate}
use Rattle.buffer.specs.Lists.{flat}
use Rattle.logline.specs.Sizes.{line_limit}
use Rattle.session.specs.Sizes.{store_size}
use Rattle.session.specs.Printed.{output}
use Rattle.session.specs.Keeps.{State, state, FedByte, FedEnd}

-- bytes fed in turn by `feed_byte`, and what was printed for them
pub data Feeds : State → List ℕ → List ℕ → State → Type 0 where
  none : {s : State} → Feeds s [] [] s
  byte :
      {s between after : State} {x : ℕ} {bytes text rest : List ℕ} → FedByte x s between text → Feeds between bytes rest after →
      Feeds s (x ∷ bytes) (text ++ rest) after

-- .. whatever it was
pub record FedBytes (s : State) (bytes : List ℕ) (after : State) : Type 0 where
  pub text : List ℕ
  pub feeds : Feeds s bytes text after

-- .. and whichever bytes they were
pub record FedSome (s after : State) : Type 0 where
  pub bytes : List ℕ
  pub fed : FedBytes s bytes after

-- .. and then `feed_end`, for which `text` is printed
pub record FedLog (s : State) (text : List ℕ) : Type 0 where
  pub last : State
  pub fed : FedSome s last
  pub ends : FedEnd last text

-- the chunks of an input, fed in turn, then `feed_end`, and what was printed
pub data Prints : State → List (List ℕ) → List ℕ → Type 0 where
  ends : {s : State} {text : List ℕ} → FedEnd s text → Prints s [] text
  chunk :
      {s between : State} {bytes text rest : List ℕ} {chunks : List (List ℕ)} → Feeds s bytes text between → Prints between chunks rest →
      Prints s (bytes ∷ chunks) (text ++ rest)

-- a store of 65,536 bytes, all zero, and no line begun
abbrev pub start : List ℕ → State
start line = state 0 line (replicate store_size 0)

-- THE LOG: whatever the input and however it is cut into chunks, what is printed is `output` of the input
abbrev pub LogPrints : Type 0
LogPrints = (line : List ℕ) (chunks : List (List ℕ)) (text : List ℕ) → length line ≡ line_limit → Prints (start line) chunks text → text ≡ output (flat chunks)
