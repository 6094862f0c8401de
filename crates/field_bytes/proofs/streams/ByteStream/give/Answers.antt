use Rattle.field_bytes.proofs.Streaming.{first_given, rest_within}
use Rattle.field_bytes.proofs.streams.ByteStream.give.Goals as goal

pub returns-clause-within : goal.returns-clause-within
returns-clause-within g c =
    rest_within g.E.RawDataSerializable.NUM_BYTES _ g.E.Represented.repr _ _ c.NUM_BYTES-size.ensures c.pending_of-pending.ensures.within

pub returns-clause-left : goal.returns-clause-left
returns-clause-left g c =
    first_given g.E.RawDataSerializable.NUM_BYTES _ g.E.Represented.repr _ _ c.NUM_BYTES-size.ensures c.args.element c.args.self.now.given
    c.byte-byte.result c.requires c.byte-byte.ensures (c.pending_of-pending.ensures.left g.E.Represented.repr)
