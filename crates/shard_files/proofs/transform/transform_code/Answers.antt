use Rattle.std.proofs.Common.{refl, sym, ◌∙◌, arith}
use Rattle.std.proofs.lemmas.Bool.{false≢true, true≢false}
use Rattle.shard_files.proofs.TransformWords.{is_code, no_code, no_points}
use Rattle.shard_files.proofs.transform.transform_code.Goals as goal

pub returns-then-can_reconstruct-clause-accepted : goal.returns-then-can_reconstruct-clause-accepted
returns-then-can_reconstruct-clause-accepted c =
    let code = c.in-Ok.code in
    let made = c.in-Ok.ensures.made in (
      λ is. (
        omega (arith, code.some_data, made.0),
        omega (arith, code.some_parity, made.1),
        is_code c.args.data_shards c.args.parity_shards code.data_shards code.parity_shards code.levels code.all_levels made.0 made.1
            code.padded code.all (c.can_reconstruct.ensures.0 c.if-can_reconstruct.true),
      ),
      λ has. refl,
    )

pub returns-else-can_reconstruct-clause-accepted : goal.returns-else-can_reconstruct-clause-accepted
returns-else-can_reconstruct-clause-accepted c =
    let code = c.in-Ok.code in
    let made = c.in-Ok.ensures.made in (
      λ is. absurd (false≢true is),
      λ has. absurd (true≢false (sym (c.can_reconstruct.ensures.1
          (no_code c.args.data_shards c.args.parity_shards code.data_shards code.parity_shards code.levels code.all_levels made.0 made.1
          code.padded code.all has.2)) ∙ c.if-can_reconstruct.false)),
    )

pub returns-in-Err-clause-accepted : goal.returns-in-Err-clause-accepted
returns-in-Err-clause-accepted c = (
  λ is. absurd (false≢true is),
  λ has. absurd (no_points c.args.data_shards c.args.parity_shards (c.in-Err.ensures.many has.0 has.1).1 has.2),
)
