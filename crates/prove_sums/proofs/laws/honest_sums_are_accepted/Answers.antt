use Rattle.std.proofs.Common.{ℕ}
use Rattle.prove_sums.proofs.Completeness.{honest_sums_are_accepted}
use Rattle.prove_sums.proofs.laws.honest_sums_are_accepted.Goals as goal

pub returns : goal.returns
returns g c =
    let field = g.F.Represented in
    let level = g.F.TowerLevel in
    honest_sums_are_accepted g.C.Transcript.state g.C.CanObserve.observes g.C.CanSample.gives g.C.GrindingChallenger.passing
    g.C.GrindingChallenger.checks g.C.CanSampleBits.gives_bits g.met.C.CanObserve.observes_law g.met.C.CanSample.gives_law
    g.met.C.GrindingChallenger.passing_law g.met.C.GrindingChallenger.checks_law g.met.C.CanSampleBits.gives_bits_law
    g.C.GrindingChallenger.number field.repr g.F.RawDataSerializable.NUM_BYTES field.width field.product
    (λ (i : ℕ). level.basis (level.cantor i)) c.field_has_points.ensures field.same_law c.honest_reduces.ensures
    c.openings_have_one_count.ensures
