use Rattle.std.proofs.Common.{◌≡◌, ℕ, ◌+◌, ◌-◌, ◌*◌, List, take, drop, ap₂, arith}
use Rattle.shard_files.specs.Groups.{shard_at}
use Rattle.shard_files.proofs.group.Group.shard.Goals as goal

pub returns : goal.returns
unfolding shard_at
returns c =
    let size = c.args.self.now.layout.origin.size in
    let begin = c.args.index * size in
    let gap : c.args.index * size + size - c.args.index * size ≡ size = omega arith in
    ap₂ (λ (n : ℕ) (l : List ℕ). take n (drop begin l)) gap c.as_slice.ensures.value
