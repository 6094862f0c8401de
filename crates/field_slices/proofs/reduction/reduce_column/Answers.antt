use Rattle.std.proofs.Common.{refl, arith}
use Rattle.std.specs.Prelude.{slice_index}
use Rattle.std.proofs.lemmas.List.{get_or-set_other, length-set}
use Rattle.field_slices.specs.Matrices.{entry_of}
use Rattle.field_slices.proofs.Elimination.{echelon_noted, echelon_skip}
use Rattle.field_slices.proofs.RowSpaces.{space_same}
use Rattle.field_slices.proofs.reduction.reduce_column.Goals as goal

pub returns-in-None-clause-reduced : goal.returns-in-None-clause-reduced
returns-in-None-clause-reduced g c =
    let ring = (g.met.S.Scalars.field_law c.args.field).ring in
    let entries = entry_of (g.S.Scalars.number c.args.field) c.args.shape.columns c.args.matrix.now in
    record {
      shape = refl;
      room = refl;
      reduced = echelon_skip c.args.shape.rows c.args.column c.args.rank (slice_index c.args.pivots.now) entries
          (c.in-None.ensures.none refl)
          c.requires.reduced;
      rest = λ i past. refl;
      space = space_same _ _ ring c.args.shape.rows c.args.shape.columns entries;
    }

pub returns-in-Some-clause-reduced : goal.returns-in-Some-clause-reduced
returns-in-Some-clause-reduced g c =
    let entries = entry_of (g.S.Scalars.number c.args.field) c.args.shape.columns in
    let made = c.make_pivot.ensures in
    record {
      shape = made.shape;
      room = length-set c.args.pivots.now c.args.rank c.args.column;
      reduced = echelon_noted c.args.shape.rows c.args.shape.columns c.args.column c.args.rank c.in-Some.row c.args.pivots.now
          (entries c.args.matrix.now) (entries c.make_pivot.new.matrix) c.in-Some.ensures.inside c.requires.room c.requires.column made.leading
          made.alone made.stays c.requires.reduced;
      rest = λ i past. get_or-set_other c.args.pivots.now c.args.rank i c.args.column 0 (λ e. absurd (omega (arith, e, past)));
      space = made.space;
    }
