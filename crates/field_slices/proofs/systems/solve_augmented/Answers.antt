use Rattle.std.proofs.Common.{refl, arith}
use Rattle.field_slices.proofs.LinearSystems.{solution_found, solution_missing}
use Rattle.field_slices.proofs.MatrixRows.{entries-lt}
use Rattle.field_slices.proofs.systems.solve_augmented.Goals as goal

pub returns-in-Some-clause-unsolvable : goal.returns-in-Some-clause-unsolvable
returns-in-Some-clause-unsolvable g c = λ _.
    let law = g.met.S.Scalars in
    let step = c.row_reduce_augmented-rank in
    let found = c.in-Some.ensures in
    solution_missing (law.field_law c.args.field).ring (omega (arith, c.requires.unknowns))
    (entries-lt _ _ (law.range_law c.args.field) _ c.args.augmented.now) (entries-lt _ _ (law.range_law c.args.field) _ step.new.matrix)
    step.ensures.reduced step.ensures.space found.inside.0 found.inside.1 found.nonzero

pub returns-in-None-clause-solution : goal.returns-in-None-clause-solution
returns-in-None-clause-solution g c = λ _.
    let law = g.met.S.Scalars in
    let step = c.row_reduce_augmented-rank in
    let written = c.write_solution.ensures in
    solution_found (law.field_law c.args.field).ring (omega (arith, c.requires.unknowns))
    (entries-lt _ _ (law.range_law c.args.field) _ c.args.augmented.now) (entries-lt _ _ (law.range_law c.args.field) _ step.new.matrix)
    step.ensures.reduced step.ensures.space (record { at_pivots = written.at_pivots; elsewhere = written.elsewhere })
    (c.in-None.ensures.none refl)
