use Rattle.std.proofs.Common.{◌-◌, ◌≤◌, length, map}
use Rattle.field_element.specs.Element.{repr_of}
use Rattle.field_element.proofs.ChangedPlaces.{Changed}
use Rattle.field_element.proofs.element.blocks.change_blocks.Given as goal

-- the elements of the blocks before this one are changed
abbrev pub invariant-loop-start : goal.invariant-loop-start
invariant-loop-start g l =
    (l.start ≤ length l.fn.elements)
    × Changed repr_of (g.O.OnWords.gives l.operation (map repr_of l.others)) l.fn.elements l.elements l.start

abbrev pub decreases-loop-start : goal.decreases-loop-start
decreases-loop-start g l = length l.elements - l.start
