use Rattle.std.proofs.Common.{◌≡◌, drop}
use Rattle.std.specs.Prelude.{bit_xor}
use Rattle.field_base.specs.LinearMaps.{linear_image}
use Rattle.word_carryless.proofs.power_maps.sum_of_columns.Given as goal

-- the columns before the place are in the sum, and the bits that are left belong to those from it on
abbrev pub invariant-loop-place : goal.invariant-loop-place
invariant-loop-place l =
    bit_xor l.sum (linear_image (drop l.place l.columns) l.rest) ≡ linear_image l.columns l.fn.x
