use Rattle.std.proofs.Common.{◌+◌, ◌*◌}
use Rattle.std.specs.Prelude.{bit_xor, slice_index}
use Rattle.bits_packed.specs.BitMatrices.{IsRangeWritten, bit_entry}
use Rattle.bits_packed.proofs.byte_products.add_to_row.Given as goal

-- the groups before this one are done
abbrev pub invariant-loop-group : goal.invariant-loop-group
invariant-loop-group l =
    IsRangeWritten l.first (8 * l.group) (λ p. bit_xor (slice_index l.fn.target (l.first + p)) (l.weight * bit_entry 8 l.product l.row p))
    l.fn.target l.target

-- and the places before this one
abbrev pub invariant-loop-place : goal.invariant-loop-place
invariant-loop-place l =
    IsRangeWritten l.first l.place (λ p. bit_xor (slice_index l.fn.target (l.first + p)) (l.weight * bit_entry 8 l.product l.row p))
    l.fn.target l.target
