use Rattle.std.proofs.Common.{refl, sym, ◌∙◌, arith}
use Rattle.field_slices.specs.Matrices.{entry_of}
use Rattle.field_slices.proofs.PivotDeterminants.{steps-start, steps-none, steps-end}
use Rattle.field_slices.proofs.determinants.determinant.Goals as goal

pub loop-step-init : goal.loop-step-init
loop-step-init g c =
    let law = g.met.S.Scalars in
    let old = entry_of (g.S.Scalars.number c.args.field) c.args.size c.args.matrix.now in
    (refl, steps-start (law.field_law c.args.field).ring c.args.size (law.wide_law c.args.field) old c.one-product.ensures)

pub returns-in-None-clause-determinant : goal.returns-in-None-clause-determinant
returns-in-None-clause-determinant g c =
    let now = entry_of (g.S.Scalars.number c.args.field) c.args.size c.loop-step.matrix in
    c.zero.ensures
    ∙ sym (steps-none (g.met.S.Scalars.field_law c.args.field).ring c.args.size now c.loop-step.step c.loop-step.invariant.1
    (c.in-None.ensures.none refl))

pub returns-clause-determinant : goal.returns-clause-determinant
returns-clause-determinant g c =
    let law = g.met.S.Scalars in
    let now = entry_of (g.S.Scalars.number c.args.field) c.args.size c.loop-step.matrix in
    sym (steps-end (law.field_law c.args.field).ring c.args.size now c.loop-step.step c.loop-step.invariant.1 (omega arith)
    (law.range_law c.args.field c.loop-step.product))
