use Rattle.std.proofs.Common.{◌≡◌, ◌*◌, length, map}
use Rattle.ghash_slices.proofs.RunStages.{StageSoFar}
use Rattle.ghash_slices.proofs.low_stages.run_stage.Given as goal

-- the pairs before are done
abbrev pub invariant-loop-turn : goal.invariant-loop-turn
invariant-loop-turn g l =
    let value = g.W.Reads.number in
    (length l.values ≡ length l.fn.values)
    × StageSoFar l.twiddles l.low l.bit l.start (4 * l.turn) (map value l.fn.values) (map value l.values)
