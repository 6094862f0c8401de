use Rattle.std.proofs.Common.{◌+◌, ◌-◌}
use Rattle.std.specs.Prelude.{slice_index}
use Rattle.ghash_slices.specs.Blocks.{HoldsPlaces}
use Rattle.ghash_slices.proofs.scalar_products.put_row.Given as goal

-- the places before are written
abbrev pub invariant-loop-place : goal.invariant-loop-place
invariant-loop-place l = HoldsPlaces (λ p. slice_index l.row (p - l.start)) l.start (l.start + l.place) l.fn.numbers l.numbers
