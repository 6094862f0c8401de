use Rattle.std.specs.Array.{index_steps}
use Rattle.std.specs.Iterator.{CallableAtEachTurn}
use Rattle.field_base.specs.Bit.{bit_number}
use Rattle.packed_lanes.proofs.WordLists.{Filled}
use Rattle.bits_packed.proofs.packed.PackedGf2.from_fn.Given as goal

-- the lanes from this one on may be asked for, and those so far are those of the calls
abbrev pub invariant-loop-lane : goal.invariant-loop-lane
invariant-loop-lane g l =
    CallableAtEachTurn (index_steps g.U.Underlier.BITS) (λ p i q. (x : _) × goal.F-step g p i x q) (goal.F-pre g) l.lane l.f
    × Filled 1 bit_number (goal.F-step g) l.initial.f l.lane (g.U.Underlier.number l.packed.bits) l.f
