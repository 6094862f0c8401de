use Rattle.std.proofs.Common.{map, sym, ◌∙◌, ap}
use Rattle.std.specs.Prelude.{slice_index}
use Rattle.field_base.proofs.Places.{number-at}
use Rattle.field_slices.proofs.rows.entry.Goals as goal

pub returns : goal.returns
returns g c =
    let number = g.S.Scalars.number c.args.field in
    sym (number-at number c.args.matrix.now c.place-own.result c.index-matrix-own.result c.place-own.ensures.inside c.index-matrix-own.is)
    ∙ ap (slice_index (map number c.args.matrix.now)) c.place-own.ensures.is
