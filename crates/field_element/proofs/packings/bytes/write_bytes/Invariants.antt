use Rattle.std.proofs.Common.{◌≡◌, map}
use Rattle.field_element.specs.Element.{repr_of}
use Rattle.field_element.proofs.PlaceProducts.{joined_before, other}
use Rattle.field_element.proofs.packings.bytes.write_bytes.Given as goal

-- the elements before this place are written
abbrev pub invariant-loop-place : goal.invariant-loop-place
invariant-loop-place l = map repr_of l.elements ≡ joined_before other l.place (map repr_of l.fn.elements) l.bytes
