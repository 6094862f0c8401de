use Rattle.std.proofs.Common.{◌≡◌, take}
use Rattle.field_bytes.specs.Streams.{joined_bytes}
use Rattle.protocols.proofs.proof_bytes.encode.Given as goal

-- the elements before this one are written
abbrev pub invariant-elements : goal.invariant-elements
invariant-elements g l = l.bytes.items ≡ joined_bytes g.F.RawDataSerializable.NUM_BYTES g.F.Represented.repr (take l.index l.elements)
