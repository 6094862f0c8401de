use Rattle.std.proofs.Common.{map}
use Rattle.std.specs.Prelude.{bit_xor}
use Rattle.std.specs.Simd.Lanes.{zip2}
use Rattle.field_base.proofs.Written.{WrittenTo}
use Rattle.field_slices.proofs.sums.add_slice.Given as goal

-- the places before this one are done
abbrev pub invariant-loop-place : goal.invariant-loop-place
invariant-loop-place g l =
    let ring = g.R.Represented in
    WrittenTo ring.repr (zip2 bit_xor (map ring.repr l.fn.values) (map ring.repr l.others)) l.fn.values l.values l.place
