use Rattle.std.proofs.Common.{map}
use Rattle.std.specs.Prelude.{bit_xor, slice_index}
use Rattle.ghash_slices.specs.Blocks.{HoldsPlaces}
use Rattle.ghash_slices.proofs.slices.add_each.Given as goal

-- the places before are written
abbrev pub invariant-loop-place : goal.invariant-loop-place
invariant-loop-place g l =
    let value = g.W.Reads.number in
    HoldsPlaces (λ p. bit_xor (slice_index (map value l.fn.values) p) (slice_index (map value l.others) p)) 0 l.place (map value l.fn.values) (map value l.values)
