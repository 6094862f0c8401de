use Rattle.std.proofs.Common.{ℕ}
use Rattle.small_tables.proofs.SmallOpenings.{small_values_are_bound}
use Rattle.small_tables.proofs.laws.small_values_are_bound.Goals as goal

pub returns : goal.returns
returns g c = λ size vector.
    let field = g.F.Represented in
    small_values_are_bound g.C.CanObserve.observes g.C.CanSample.gives g.C.GrindingChallenger.passing g.C.GrindingChallenger.checks
    g.C.CanSampleBits.gives_bits field.repr size field.width field.product vector
    c.small_values_are_weighted.ensures c.mixed_sums_are_parts.ensures c.false_parts_need_root.ensures c.false_claims_need_luck.ensures
    c.opened_values_need_luck.ensures (c.tables_are_bound.ensures size vector)
