use Rattle.std.proofs.Common.{map}
use Rattle.std.specs.Prelude.{bit_xor}
use Rattle.std.specs.Simd.Lanes.{zip2}
use Rattle.field_base.proofs.Written.{WrittenTo}
use Rattle.field_slices.proofs.scalars.Scalars.add_each.Given as goal

-- the places before this one are done
abbrev pub invariant-loop-place : goal.invariant-loop-place
invariant-loop-place g l =
    let number = g.Self.Scalars.number l.self in
    WrittenTo number (zip2 bit_xor (map number l.fn.values) (map number l.others)) l.fn.values l.values l.place
