use Rattle.std.proofs.Common.{◌≡◌, length, map, take}
use Rattle.field_element.specs.Element.{repr_of}
use Rattle.field_element.proofs.linear_map.representations.Given as goal

-- the places before hold their representations
abbrev pub invariant-loop-place : goal.invariant-loop-place
invariant-loop-place l =
    (length l.representations ≡ 128) × (take l.place l.representations ≡ map repr_of (take l.place l.images))
