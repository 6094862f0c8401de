use Rattle.std.proofs.Common.{◌+◌, ℕ, map}
use Rattle.field_element.specs.Element.{repr_of}
use Rattle.field_element.proofs.ChangedPlaces.{Changed}
use Rattle.field_element.proofs.element.blocks.change_by_words.Given as goal

-- the places before this one are changed
abbrev pub invariant-loop-place : goal.invariant-loop-place
invariant-loop-place g l =
    Changed repr_of (λ (k : ℕ). g.O.OnWords.gives l.operation (map repr_of l.others) (l.start + k)) l.fn.elements l.elements l.place
