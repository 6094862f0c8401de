use Rattle.field_bytes.proofs.Streaming.{none_after}
use Rattle.field_bytes.proofs.streams.pending_of.Goals as goal

pub returns-then-given-size-clause-left : goal.returns-then-given-size-clause-left
returns-then-given-size-clause-left g c = λ repr. none_after c.args.size c.args.given (repr c.args.element) c.if-given-size.true
