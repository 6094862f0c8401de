use Rattle.std.proofs.Common.{◌≡◌, ◌*◌, ◌%◌, ◌^◌}
use Rattle.std.specs.Prelude.{count_ones}
use Rattle.packed_lanes.proofs.rows.count_bits.Given as goal

abbrev pub invariant-loop-i : goal.invariant-loop-i
invariant-loop-i g l = l.count ≡ count_ones (g.U.Underlier.number l.row % 2 ^ (g.U.Word.Word.BITS * l.i))
