use Rattle.std.proofs.Common.{◌≡◌}
use Rattle.any_field.proofs.ShiftAndAdd.{products, rests}
use Rattle.any_field.proofs.byte_lanes.multiply_byte_lanes.Given as goal

-- the bits of the right factors that have entered, and those that are left
abbrev pub invariant-loop-bit : goal.invariant-loop-bit
invariant-loop-bit g l = (l.product ≡ products l.tail l.bit l.left l.fn.right) × (l.rest ≡ rests l.bit l.fn.right)
