use Rattle.std.proofs.Common.{map, sym, ◌∙◌}
use Rattle.std.proofs.lemmas.List.{length-map}
use Rattle.field_slices.proofs.ScaledSums.{scaled_sums}
use Rattle.field_slices.proofs.scalars.ElementsScalars.add_scaled.Goals as goal

pub returns-clause-sums : goal.returns-clause-sums
returns-clause-sums g c =
    let field = g.F.Represented in
    let values = c.args.values.now in
    let old = c.args.sums.now in
    scaled_sums field.product (field.repr c.args.scalar) (map field.repr values) (map field.repr old) _
    (length-map values field.repr ∙ c.requires ∙ sym (length-map old field.repr)) c.add_scaled.ensures
