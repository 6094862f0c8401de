use Rattle.error_codes.proofs.Orders.{qr-order}
use Rattle.error_codes.proofs.code.CorrectingCode.qr.Goals as goal

pub returns-clause-accepted : goal.returns-clause-accepted
returns-clause-accepted c = (
  λ ok. let all = c.new.ensures.accepted.0 ok in (all.0, all.1, all.2),
  λ holds. c.new.ensures.accepted.1 (holds.0, holds.1, holds.2, qr-order c.args.word_length holds.2),
)

pub returns-clause-made : goal.returns-clause-made
returns-clause-made c = c.new.ensures.made
