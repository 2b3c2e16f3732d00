-- The parts of the record stand one behind the other.
use native.Mathlib.Omega.{arith}
use Prim.Native.Nat.{ℕ, ◌+◌, ◌-◌, ◌*◌, ◌≤◌}
use mathlib.Core.Path.{◌≡◌, ◌∙◌}
use mathlib.Core.List.{List}
use lib.ListN.{length, take, length-set}
use lib.Seq.{length-take-le}
use borrow.Author.Tests.{lt-ltb, le-ltb}
use Rattle.std.proofs.Common.{rules}
use Rattle.rows.specs.Sizes.{row_size, node_limit, record_size}
use Rattle.rows.proofs.Records.{record_inside}
use Rattle.read_back.specs.Readings.{node_size, way_size}
use Rattle.read_back.proofs.Writes.{recorded}
use Rattle.read_back.proofs.record.put_record.Goals as goal

-- the nodes of the way
length_way : (n : ℕ) (w : List ℕ) → length w ≡ way_size → n ≤ node_limit → length (take (node_size * n) w) ≡ node_size * n
length_way n w e h = length-take-le (node_size * n) w (omega arith)

pub copy_from-requires-then-m-room : goal.copy_from-requires-then-m-room
copy_from-requires-then-m-room c =
    let a = c.args in
    simp length-set
    (omega (arith, c.copy_from.auto.s, c.requires.0, length_way a.n a.way.now (search rules) c.requires.1, record_inside a.m a.room record_size c.if-m-room.true))

pub clear-requires : goal.clear-requires
clear-requires c =
    let a = c.args in
    let first : length c.copy_from-then-m-room.new.s ≡ length a.answer.now = c.copy_from-then-m-room.auto.s ∙ length-set {A = ℕ} c.copy_from.new.s (a.m * record_size + row_size) a.n ∙ c.copy_from.auto.s in
    omega (arith, first, c.requires.0, c.requires.1, record_inside a.m a.room record_size c.if-m-room.true)

pub shape_of-answer : goal.shape_of-answer
shape_of-answer c =
    let a = c.args in
    c.clear.auto.s ∙ c.copy_from-then-m-room.auto.s ∙ length-set {A = ℕ} c.copy_from.new.s (a.m * record_size + row_size) a.n ∙ c.copy_from.auto.s

pub returns-then-m-room : goal.returns-then-m-room
returns-then-m-room c =
    let a = c.args in
    let inside = record_inside a.m a.room record_size c.if-m-room.true in
    let zeros : way_size - node_size * a.n ≡ node_size * (node_limit - a.n) = omega (arith, c.requires.1) in
    rw (lt-ltb a.m a.room c.if-m-room.true)
    (c.clear.ensures
    ∙ rw (c.copy_from-then-m-room.ensures, c.copy_from.ensures, zeros)
    (recorded a.n a.key.now (take (node_size * a.n) a.way.now) (search rules) (length_way a.n a.way.now (search rules) c.requires.1) c.requires.1 a.answer.now (a.m * record_size) (omega (arith, c.requires.0))))

pub returns-else-m-room : goal.returns-else-m-room
returns-else-m-room c = rw (le-ltb c.args.m c.args.room (omega arith))
