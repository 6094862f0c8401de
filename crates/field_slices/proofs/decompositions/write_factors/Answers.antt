use Rattle.std.proofs.Common.{sym, ◌∙◌, ap, arith}
use Rattle.field_slices.specs.Matrices.{entry_of}
use Rattle.field_slices.proofs.TriangularSteps.{factors_start, factors_step, quotient_times}
use Rattle.field_slices.proofs.decompositions.write_factors.Goals as goal

pub loop-row-init : goal.loop-row-init
loop-row-init g c = factors_start

pub loop-row-preserved : goal.loop-row-preserved
loop-row-preserved g c =
    let number = g.S.Scalars.number c.args.field in
    let times = g.S.Scalars.product c.args.field in
    let ring = (g.met.S.Scalars.field_law c.args.field).ring in
    let law = g.met.S.Scalars in
    let U = entry_of number c.args.shape.columns c.args.matrix.now in
    factors_step c.loop-row.invariant (omega arith) (omega arith)
    (ap (λ x. times x (U c.args.column c.args.column)) c.multiply.ensures
    ∙ quotient_times ring ((law.range_law c.args.field) c.entry-value.result)
    (ap (λ x. times x (number c.invert-inverse.result)) (sym c.entry.ensures) ∙ c.invert-inverse.ensures)
    ∙ c.entry-value.ensures)
    c.set_entry.ensures

pub returns-clause-factors : goal.returns-clause-factors
returns-clause-factors g c = λ i below inside. c.loop-row.invariant.done i below (omega (arith, inside))
