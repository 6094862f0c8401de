use Rattle.std.proofs.Common.{◌≡◌, map}
use Rattle.field_element.specs.Element.{repr_of}
use Rattle.field_element.proofs.PlaceProducts.{joined_before, other}
use Rattle.field_element.proofs.packings.bytes.read_bytes.Given as goal

-- the bytes before this place are written
abbrev pub invariant-loop-place : goal.invariant-loop-place
invariant-loop-place l = l.bytes ≡ joined_before other l.place l.fn.bytes (map repr_of l.elements)
