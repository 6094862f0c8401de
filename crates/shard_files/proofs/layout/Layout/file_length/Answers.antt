use Rattle.std.proofs.Common.{arith}
use Rattle.shard_files.proofs.Positions.{piece_room}
use Rattle.shard_files.proofs.layout.Layout.file_length.Goals as goal

pub overflow_mul-result : goal.overflow_mul-result
overflow_mul-result c =
    let layout = c.args.self.now in
    omega (arith, piece_room layout.origin layout.possible c.stripe_count.result (omega (arith, c.stripe_count.ensures)))

pub overflow_add-result-2 : goal.overflow_add-result-2
overflow_add-result-2 c =
    let layout = c.args.self.now in
    omega (arith, piece_room layout.origin layout.possible c.stripe_count.result (omega (arith, c.stripe_count.ensures)))
