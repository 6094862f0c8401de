use Rattle.std.proofs.Common.{sym, arith}
use Rattle.std.proofs.Math.ListN.{drop_of_length-le}
use Rattle.std.proofs.lemmas.List.{take_rest}
use Rattle.shard_files.proofs.group.rest_of.Goals as goal

pub returns-then-bytes-count : goal.returns-then-bytes-count
returns-then-bytes-count c = sym (drop_of_length-le c.args.bytes.now {i = c.args.count} (omega (arith, c.if-bytes-count.true)))

pub returns-else-bytes-count : goal.returns-else-bytes-count
returns-else-bytes-count c = take_rest c.args.bytes.now c.args.count
