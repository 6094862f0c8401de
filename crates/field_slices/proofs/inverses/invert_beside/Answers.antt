use Rattle.std.proofs.Common.{◌∙◌, arith}
use Rattle.std.proofs.lemmas.Bool.{eqb-true, eqb-false}
use Rattle.field_slices.proofs.InverseMatrices.{columns-fit, inverse_found, inverse_missing}
use Rattle.field_slices.proofs.MatrixRows.{entries-lt}
use Rattle.field_slices.proofs.inverses.invert_beside.Goals as goal

pub overflow_add-columns : goal.overflow_add-columns
overflow_add-columns g c = omega (arith, columns-fit c.args.size)

pub returns : goal.returns
returns g c =
    let law = g.met.S.Scalars in
    let ring = (law.field_law c.args.field).ring in
    let step = c.row_reduce_augmented-rank in
    let beside_fits = entries-lt _ _ (law.range_law c.args.field) _ c.write_identity.new.matrix in
    let fits = entries-lt _ _ (law.range_law c.args.field) _ step.new.matrix in
    record {
      shape = step.ensures.shape ∙ c.write_identity.ensures.shape;
      room = step.ensures.room;
      inverse = λ found.
          inverse_found ring _ beside_fits fits c.write_identity.ensures.entries step.ensures.reduced step.ensures.space
          (eqb-true step.result c.args.size found);
      singular = λ missing.
          inverse_missing ring _ beside_fits fits c.write_identity.ensures.entries step.ensures.reduced step.ensures.space
          (eqb-false step.result c.args.size missing);
    }
