use Rattle.std.proofs.Common.{ℕ}
use Rattle.small_tables.proofs.SmallOpenings.{small_verdicts_agree}
use Rattle.small_tables.proofs.laws.small_verdicts_agree.Goals as goal

pub returns : goal.returns
returns g c = λ size vector.
    let field = g.F.Represented in
    small_verdicts_agree g.C.Transcript.state g.C.CanObserve.observes g.C.CanSample.gives g.C.GrindingChallenger.passing
    g.C.GrindingChallenger.checks g.C.CanSampleBits.gives_bits g.met.C.CanObserve.observes_law g.met.C.CanSample.gives_law
    g.met.C.GrindingChallenger.passing_law g.met.C.GrindingChallenger.checks_law g.met.C.CanSampleBits.gives_bits_law field.repr field.same_law
    size field.width field.product vector
