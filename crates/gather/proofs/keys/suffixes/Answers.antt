-- Each turn puts the row of one suffix, or passes it (`Going`).
use native.Mathlib.Omega.{arith}
use Prim.Native.Nat.{◌*◌}
use lib.Seq.{length-take-le}
use Rattle.gather.specs.Visits.{node_size}
use Rattle.gather.proofs.Turning.{going_start, suffixes_done, suffixes_put, suffixes_pass}
use Rattle.gather.proofs.keys.suffixes.Goals as goal

pub loop-suffix-init : goal.loop-suffix-init
loop-suffix-init g c = rw c.into_iter-suffix-iterator.ensures.into_iter_gives record { going = going_start; long = c.told-key }

pub loop-suffix-preserved-then-compose : goal.loop-suffix-preserved-then-compose
loop-suffix-preserved-then-compose g c =
    let i = c.loop-suffix.invariant in
    let fit = c.args.below.nodes_fit in
    let wide = c.told-way in
    let ways = length-take-le (node_size * c.args.below.nodes) c.args.way.now (omega arith) in
    let within = rw c.in-Some.is at c.next.ensures.steps.within in
    let told = c.compose.ensures in
    record {
      long = c.compose.array_long;
      going = rw within.1
          (suffixes_put i.going c.next.ensures.steps.value c.in-Some.suffix c.in-Some.is within.0.long g.F.Format.width g.met.F.Format.even i.long ways c.requires.fits told.value told.key_after c.if-compose.true c.put.ensures);
    }

pub loop-suffix-preserved : goal.loop-suffix-preserved
loop-suffix-preserved g c =
    let within = rw c.in-Some.is at c.next.ensures.steps.within in
    let told = c.compose.ensures in
    record {
      long = c.compose.array_long;
      going = rw within.1
          (suffixes_pass c.loop-suffix.invariant.going c.next.ensures.steps.value c.in-Some.suffix c.in-Some.is within.0.long told.value told.key_after c.if-compose.false);
    }

pub returns : goal.returns
returns g c = suffixes_done c.loop-suffix.invariant.going c.next.ensures.steps.value c.in-None.is
