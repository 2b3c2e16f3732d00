-- After i turns i zeros are laid over.
use native.Mathlib.Omega.{arith}
use mathlib.Core.Path.{◌≡◌, refl, sym}
use lib.ListN.{length-set, length-replicate, replicate-append-replicate}
use Rattle.buffer.proofs.Splice.{splice_nil}
use Rattle.buffer.proofs.Turns.{grow}
use Rattle.buffer.proofs.moves.clear.Goals as goal

pub loop-i-init : goal.loop-i-init
loop-i-init c = (omega arith, refl, sym (splice_nil _ _))

pub loop-i-preserved : goal.loop-i-preserved
loop-i-preserved c = (
  omega arith,
  simp length-set (omega arith),
  grow _ _ _ _ _ _ _ c.loop-i.invariant.2 (length-replicate _ _) (omega arith) (replicate-append-replicate c.loop-i.i 1 0),
)

pub returns : goal.returns
returns c =
    let e : c.loop-i.i ≡ c.args.n = omega arith in
    rw (← e) c.loop-i.invariant.2
