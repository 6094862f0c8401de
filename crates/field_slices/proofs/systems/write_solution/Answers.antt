use Rattle.std.proofs.Common.{◌≡◌, ◌-◌, length, ◌∙◌, ap, arith}
use Rattle.std.specs.Prelude.{slice_index}
use Rattle.std.proofs.lemmas.List.{length-set}
use Rattle.field_slices.specs.Matrices.{entry_of}
use Rattle.field_base.proofs.Places.{number-set_same, number-set_other}
use Rattle.field_slices.proofs.LinearSystems.{solved_start, solved_step}
use Rattle.field_slices.proofs.systems.write_solution.Goals as goal

pub loop-row-init : goal.loop-row-init
loop-row-init g c = (
  c.write_zeros.ensures.count,
  solved_start c.write_zeros.ensures.zeros,
)

pub loop-row-preserved : goal.loop-row-preserved
loop-row-preserved g c =
    let number = g.S.Scalars.number c.args.field in
    let count = length c.args.solution.now in
    let row = c.loop-row.row in
    let pivot = slice_index c.args.pivots.now in
    let solution = c.loop-row.solution in
    let value = c.entry.result in
    let below = c.loop-row-test.true in
    let fits = c.requires.reduced.pivots_fit row below in
    let same = c.loop-row.invariant.0 in
    let behind : c.args.shape.columns - 1 ≡ count = omega (arith, c.requires.unknowns) in (
      length-set solution (pivot row) value ∙ same,
      solved_step fits
          (number-set_same number solution (pivot row) value (omega (arith, fits, same)) ∙ c.entry.ensures
          ∙ ap (entry_of number c.args.shape.columns c.args.reduced.now row) behind)
          (λ j inside other. number-set_other number solution (pivot row) j value other)
          (λ k before. c.requires.reduced.pivots_rise k row before below) c.loop-row.invariant.1,
    )
