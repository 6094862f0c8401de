use Rattle.std.proofs.Common.{◌+◌, ◌*◌, map, set, sym, ◌∙◌, ap}
use Rattle.std.specs.Prelude.{slice_index}
use Rattle.std.proofs.lemmas.List.{length-set}
use Rattle.field_base.proofs.Places.{number-set_same, number-set_other}
use Rattle.field_slices.proofs.MatrixRows.{places-differ}
use Rattle.field_slices.proofs.rows.set_entry.Goals as goal

pub returns : goal.returns
returns g c =
    let number = g.S.Scalars.number c.args.field in
    let columns = c.args.shape.columns in
    let old = c.args.matrix.now in
    let value = c.args.value in
    let own = c.place-own.result in
    record {
      shape = length-set old own value;
      written = ap (slice_index (map number (set old own value))) (sym c.place-own.ensures.is)
          ∙ number-set_same number old own value c.place-own.ensures.inside;
      others = λ i j inside other.
          number-set_other number old own (i * columns + j) value
          (λ e. places-differ columns i j c.args.row c.args.column inside c.requires.column_within other (e ∙ c.place-own.ensures.is));
    }
