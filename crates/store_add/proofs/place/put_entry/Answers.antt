-- Put in, then counted.
use native.Mathlib.Omega.{arith}
use Rattle.book.proofs.OneCall.{need_front}
use Rattle.store_add.proofs.place.put_entry.Goals as goal

pub place-requires : goal.place-requires
place-requires c = c.requires

pub overflow_add-front : goal.overflow_add-front
overflow_add-front c = omega (arith, c.requires.ready.few)

pub overflow_cast-front : goal.overflow_cast-front
overflow_cast-front c = omega (arith, c.requires.ready.few)

pub put32-requires : goal.put32-requires
put32-requires c = omega (arith, need_front c.args.front.m c.args.front.l, c.requires.ready.enough, c.place.auto.store)

pub returns : goal.returns
returns c = record { between = c.place.new.store; placed = c.place.ensures; is = c.put32.ensures }
