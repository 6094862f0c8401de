use Rattle.std.proofs.Common.{length, refl}
use Rattle.std.proofs.lemmas.Bool.{false≢true}
use Rattle.shard_files.proofs.TransformCalls.{can_verify}
use Rattle.shard_files.proofs.transform.is_coded.Goals as goal

pub returns-in-Ok : goal.returns-in-Ok
returns-in-Ok c = (
  λ is. ((c.in-Ok.ensures.accepted.0 refl).sizes, c.in-Ok.ensures.answer.0 is),
  λ both. c.in-Ok.ensures.answer.1 both.1,
)

pub returns-in-Err : goal.returns-in-Err
returns-in-Err c = (
  λ is. absurd (false≢true is),
  λ both. absurd (false≢true (c.in-Err.ensures.accepted.1
      (can_verify c.args.transform.now (length c.args.words.now) (length c.args.parity.now) (length c.args.space.now) both.0 c.requires.room))),
)
