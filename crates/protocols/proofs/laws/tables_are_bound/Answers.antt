use Rattle.std.proofs.Common.{ℕ}
use Rattle.protocols.proofs.TablesBound.{tables_are_bound}
use Rattle.protocols.proofs.laws.tables_are_bound.Goals as goal

pub returns : goal.returns
returns g c = λ size vector.
    let field = g.F.Represented in
    tables_are_bound g.C.CanObserve.observes g.C.CanSample.gives g.C.GrindingChallenger.passing g.C.GrindingChallenger.checks
    g.C.CanSampleBits.gives_bits field.repr size field.width field.product vector
    c.opened_tables_need_luck.ensures c.roots_hold_columns.ensures
