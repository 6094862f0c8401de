use Rattle.std.proofs.lemmas.Bool.{false≢true}
use Rattle.shard_files.proofs.matrix.matrix_of.Goals as goal

pub unreachable-requires : goal.unreachable-requires
unreachable-requires c =
    let code = c.args.code.now in
    absurd (false≢true (c.in-Err.ensures.accepted.1 (code.some_data, code.some_parity, code.has_code.matrix c.requires)))
