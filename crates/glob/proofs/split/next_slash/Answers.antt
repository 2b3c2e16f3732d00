-- `glob::split::next_slash` meets its contract: what is left from the place on is looked through.
use Rattle.std.proofs.Common.{arith}
use Rattle.glob.proofs.Parts.{length_back}
use Rattle.glob.proofs.Places.{up_from}
use Rattle.glob.proofs.split.next_slash.Goals as goal

pub returns : goal.returns
returns c =
    let n = up_from c.args.s.now c.args.from c.bytes_before.result c.bytes_before.ensures.value in
    let l = length_back c.args.s.now c.args.from in
    (omega arith, omega arith)
