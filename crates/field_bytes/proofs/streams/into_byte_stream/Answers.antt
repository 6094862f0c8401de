use Rattle.std.proofs.Common.{refl}
use Rattle.field_bytes.proofs.Streaming.{stream_begins, stream_gives}
use Rattle.field_bytes.proofs.streams.into_byte_stream.Goals as goal

pub returns-clause-items : goal.returns-clause-items
returns-clause-items g c =
    λ bytes run. stream_gives g.I.Iterator.next_gives g.E.RawDataSerializable.NUM_BYTES g.E.Represented.repr _ c.args.elements bytes refl refl refl run

pub returns-clause-part : goal.returns-clause-part
returns-clause-part g c =
    λ bytes t run. stream_begins g.I.Iterator.next_gives g.E.RawDataSerializable.NUM_BYTES g.E.Represented.repr _ c.args.elements bytes t refl refl run

pub returns-clause-can : goal.returns-clause-can
returns-clause-can g c = λ may. ((λ _. may), refl)
