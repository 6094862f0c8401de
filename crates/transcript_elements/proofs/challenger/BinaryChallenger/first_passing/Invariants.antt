use Rattle.transcripts.specs.Grinding.{NonePasses}
use Rattle.transcript_elements.specs.Sampled.{challenger_passes}
use Rattle.transcript_elements.proofs.challenger.BinaryChallenger.first_passing.Given as goal

-- no candidate before this one passes
abbrev pub invariant-candidates : goal.invariant-candidates
invariant-candidates g l =
    NonePasses (challenger_passes g.F.RawDataSerializable.NUM_BYTES l.bits l.self) l.number
