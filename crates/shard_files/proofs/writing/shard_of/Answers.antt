use Rattle.std.proofs.Common.{◌≡◌, ℕ, ◌+◌, ◌-◌, ◌*◌, take, drop, ap, arith}
use Rattle.shard_files.specs.Groups.{shard_at}
use Rattle.shard_files.proofs.writing.shard_of.Goals as goal

pub returns : goal.returns
unfolding shard_at
returns c =
    let size = c.args.origin.now.size in
    let begin = c.args.index * size in
    let gap : c.args.index * size + size - c.args.index * size ≡ size = omega arith in
    ap (λ (n : ℕ). take n (drop begin c.args.shards.now)) gap
