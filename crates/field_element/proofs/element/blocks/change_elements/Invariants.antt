use Rattle.std.proofs.Common.{map}
use Rattle.field_element.specs.Element.{repr_of}
use Rattle.field_element.proofs.ChangedPlaces.{Changed}
use Rattle.field_element.proofs.element.blocks.change_elements.Given as goal

-- the places before this one are changed
abbrev pub invariant-loop-place : goal.invariant-loop-place
invariant-loop-place g l =
    Changed repr_of (g.O.OnWords.gives l.operation (map repr_of l.others)) l.fn.elements l.elements l.place
