-- The bytes so far are fed.
use Prim.Native.Nat.{◌+◌}
use mathlib.Core.Path.{◌≡◌}
use mathlib.Core.List.{[], ◌∷◌, ◌++◌}
use native.Mathlib.Numerals.{add-one}
use native.Mathlib.Omega.{arith}
use lib.ListN.{take, get_or}
use lib.Seq.{take-suc, take_all}
use Rattle.session.proofs.Whole.{fed_none, fed_more}
use Rattle.fieldlog.proofs.feed_chunk.Goals as goal

pub loop-byte-init : goal.loop-byte-init
loop-byte-init c = fed_none

pub loop-byte-preserved : goal.loop-byte-preserved
loop-byte-preserved c =
    let l = c.loop-byte in
    let chunk = c.args.chunk.now in
    let one : take (l.byte-index + 1) chunk ≡ take l.byte-index chunk ++ (get_or chunk l.byte-index 0 ∷ []) = rw (add-one, take-suc chunk l.byte-index 0 (omega arith)) in
    rw one (fed_more l.invariant c.feed_byte.ensures.fed)

pub returns : goal.returns
returns c =
    let chunk = c.args.chunk.now in
    rw (take_all c.loop-byte.byte-index chunk (omega arith)) at c.loop-byte.invariant
