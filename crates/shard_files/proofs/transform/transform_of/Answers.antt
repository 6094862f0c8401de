use Rattle.std.proofs.lemmas.Bool.{false≢true}
use Rattle.shard_files.proofs.TransformCalls.{is_two}
use Rattle.shard_files.proofs.transform.transform_of.Goals as goal

pub unreachable-requires : goal.unreachable-requires
unreachable-requires c =
    let code = c.args.code.now in
    absurd (false≢true (c.in-None.ensures.accepted.1 (
      code.some_data,
      code.some_parity,
      code.has_code.transform (is_two code c.requires),
    )))
