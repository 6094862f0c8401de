use Rattle.std.proofs.Common.{◌<◌, arith}
use Rattle.transcripts.specs.Grinding.{candidate_count}
use Rattle.transcript_elements.proofs.Candidates.{candidate_lt}
use Rattle.transcript_elements.proofs.challenger.BinaryChallenger.first_passing.Goals as goal

pub interpolation_node-witness-requires : goal.interpolation_node-witness-requires
interpolation_node-witness-requires g c =
    let within : c.candidates.number < candidate_count g.F.Represented.width =
    omega (arith, c.candidates-test.true, c.candidates.auto.number-end, c.candidate_count-number-end.ensures) in
    candidate_lt g.F.Represented.width c.candidates.number within
