use Rattle.std.proofs.Common.{take}
use Rattle.std.specs.Array.{FillsFrom, index_steps}
use Rattle.std.specs.Iterator.{CallableAtEachTurn}
use Rattle.packed_lanes.proofs.packing.PackedValue.from_fn.Given as goal

-- the lanes from this one on may be asked for, and the calls so far gave those below it
abbrev pub invariant-loop-lane : goal.invariant-loop-lane
invariant-loop-lane g l =
    CallableAtEachTurn (index_steps g.Self.PackedValue.WIDTH) (λ p i q. (x : _) × goal.F-step g p i x q) (goal.F-pre g) l.lane l.f
    × FillsFrom (λ p i x q. goal.F-step g p i x q) l.fn.f 0 (take l.lane (g.Self.PackedValue.lanes l.value)) l.f
