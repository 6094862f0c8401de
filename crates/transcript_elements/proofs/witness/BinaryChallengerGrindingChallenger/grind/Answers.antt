use Rattle.transcript_elements.proofs.Checks.{nothing_checked}
use Rattle.transcript_elements.proofs.witness.BinaryChallengerGrindingChallenger.grind.Goals as goal

pub returns-then-bits-eq0-clause-state : goal.returns-then-bits-eq0-clause-state
returns-then-bits-eq0-clause-state g c =
    nothing_checked _ g.F.RawDataSerializable.NUM_BYTES c.args.bits (g.F.Represented.repr c.ZERO.result) _ c.if-bits-eq0.true
