use Rattle.std.proofs.Common.{◌≡◌, ◌*◌, take}
use Rattle.field_bytes.specs.Streams.{joined_bytes}
use Rattle.protocols.proofs.proof_bytes.decode.Given as goal

-- the bytes of the elements so far are those before this place
abbrev pub invariant-elements : goal.invariant-elements
invariant-elements g l =
    take (l.index * g.F.RawDataSerializable.NUM_BYTES) l.bytes
    ≡ joined_bytes g.F.RawDataSerializable.NUM_BYTES g.F.Represented.repr l.elements.items
