use Rattle.bit_slices.specs.Layout.{IsDoneUpTo}
use Rattle.bit_slices.proofs.blocks.change_each.Given as goal

-- the places before are done
abbrev pub invariant-loop-place : goal.invariant-loop-place
invariant-loop-place g l = IsDoneUpTo l.place (g.O.Operation.gives l.others) g.W.Reads.number l.fn.words l.words
