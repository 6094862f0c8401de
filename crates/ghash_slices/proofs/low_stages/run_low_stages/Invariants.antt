use Rattle.std.proofs.Common.{◌≡◌, length, map}
use Rattle.ghash_slices.proofs.LowRuns.{Forwarded}
use Rattle.ghash_slices.proofs.low_stages.run_low_stages.Given as goal

abbrev pub invariant-loop-run : goal.invariant-loop-run
invariant-loop-run g l =
    let value = g.W.Reads.number in
    (length l.values ≡ length l.fn.values)
    × Forwarded l.shifts l.basis l.fn.first_run l.run l.number l.twiddles (map value l.fn.values) (map value l.values)
