-- `glob_prefix::prefix::plain_length` meets its contract, by `plain_before`.
use Rattle.glob_prefix.proofs.Leading.{plain_before}
use Rattle.glob_prefix.proofs.prefix.plain_length.Goals as goal

pub returns : goal.returns
returns c = plain_before c.args.l.now c.bytes_before.result c.bytes_before.ensures.value
