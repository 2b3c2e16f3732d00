-- What a session stands at, and the memory that it is over. Assumes nothing: these are definitions.
use Rattle.std.specs.Prelude.{ℕ, ◌≡◌, List, take}
use Rattle.logline.specs.Input.{counted}
use Rattle.session.specs.Keeps.{State, state}
use Rattle.session.specs.declared.run.Machine.{Machine}
use Rattle.session.specs.declared.feed.Session.{Session}

-- the line that is begun, and the store
abbrev pub state_of : Session → State
state_of s = state (counted s.lines.begun.cut) s.lines.bytes.now s.machine.store.now

-- what was printed last
abbrev pub text_of : Session → List ℕ
text_of s = take s.machine.printed.bytes s.machine.out.now

-- the same memory is lent
pub record SameMemory (m m' : Machine) : Type 0 where
  pub store : m'.store.ghost_name ≡ m.store.ghost_name
  pub answer : m'.answer.ghost_name ≡ m.answer.ghost_name
  pub out : m'.out.ghost_name ≡ m.out.ghost_name

pub record SameSession (s s' : Session) : Type 0 where
  pub line : s'.lines.bytes.ghost_name ≡ s.lines.bytes.ghost_name
  pub machine : SameMemory s.machine s'.machine
