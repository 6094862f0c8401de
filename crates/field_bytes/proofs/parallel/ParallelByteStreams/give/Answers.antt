use Rattle.std.proofs.Common.{sym}
use Rattle.field_bytes.specs.Parallel.{entry_of_row}
use Rattle.field_bytes.proofs.Streaming.{chunk-zero, first_given, rest_within}
use Rattle.field_bytes.proofs.parallel.ParallelByteStreams.give.Goals as goal

pub returns-clause-within : goal.returns-clause-within
returns-clause-within g c =
    rest_within g.E.RawDataSerializable.NUM_BYTES _ (λ row. 0) _ _ c.NUM_BYTES-size.ensures c.pending_of-pending.ensures.within

pub returns-clause-fewer : goal.returns-clause-fewer
returns-clause-fewer g c =
    first_given g.E.RawDataSerializable.NUM_BYTES _ (λ row. 0) _ _ c.NUM_BYTES-size.ensures c.args.row c.args.self.now.given 0 c.requires
    (sym (chunk-zero c.args.self.now.given)) (c.pending_of-pending.ensures.left (λ row. 0))

pub returns-clause-left : goal.returns-clause-left
returns-clause-left g c =
    λ j stream.
    first_given g.E.RawDataSerializable.NUM_BYTES _ (entry_of_row g.E.Represented.repr j) _ _ c.NUM_BYTES-size.ensures c.args.row c.args.self.now.given _ c.requires
    (c.bytes_of_row-bytes.ensures j stream) (c.pending_of-pending.ensures.left (entry_of_row g.E.Represented.repr j))
