use Rattle.std.proofs.Common.{ℕ}
use Rattle.prove_sums.proofs.Soundness.{sums_are_proved}
use Rattle.prove_sums.proofs.laws.sums_are_proved.Goals as goal

pub returns : goal.returns
returns g c =
    let field = g.F.Represented in
    let level = g.F.TowerLevel in
    sums_are_proved g.C.CanObserve.observes g.C.CanSample.gives g.C.GrindingChallenger.passing g.C.GrindingChallenger.checks
    g.C.CanSampleBits.gives_bits g.C.GrindingChallenger.number field.repr g.F.RawDataSerializable.NUM_BYTES field.width field.product
    (λ (i : ℕ). level.basis (level.cantor i)) c.field_has_points.ensures c.roots_hold_columns.ensures c.sums_need_luck.ensures
