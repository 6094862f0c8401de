use Rattle.std.proofs.Common.{◌≡◌, length, map, sym, ◌∙◌, ap, ap₂, arith}
use Rattle.std.specs.Prelude.{bit_xor, slice_index}
use Rattle.field_base.specs.Basis.{sum_below}
use Rattle.field_base.specs.Chunks.{chunk}
use Rattle.field_base.proofs.BasisSums.{sum_below-none}
use Rattle.field_base.proofs.Places.{number-at}
use Rattle.field_slices.proofs.NextTerms.{sum-more}
use Rattle.small_tables.proofs.small_field.SmallField.part.Goals as goal

pub corners-init : goal.corners-init
corners-init g c =
    let field = g.F.Represented in
    ap field.repr c.ZERO-sum.ensures ∙ g.met.F.PrimeCharacteristicRing.zero_law
    ∙ sym (sum_below-none (λ v. field.product (slice_index (map field.repr c.args.weights.now) v)
    (chunk c.args.self.now.width c.args.place (slice_index (map field.repr c.args.table.now) v))))

pub corners-preserved : goal.corners-preserved
corners-preserved g c =
    let field = g.F.Represented in
    let weights = c.args.weights.now in
    let table = c.args.table.now in
    let corner = c.corners.corner in
    let width = c.args.self.now.width in
    sum-more (λ v. field.product (slice_index (map field.repr weights) v) (chunk width c.args.place (slice_index (map field.repr table) v))) corner
    (field.repr c.corners.sum) (field.repr c.add-sum.result) c.corners.invariant
    (g.met.F.Represented.add_law c.corners.sum c.scaled-term.result c.add-sum.result c.add-sum.ensures
    ∙ ap (bit_xor (field.repr c.corners.sum))
    (c.scaled-term.ensures
    ∙ ap₂ field.product
    (sym (number-at field.repr weights corner c.index-weights-corner.result (omega (arith, c.requires.count)) c.index-weights-corner.is))
    (c.coefficient-number.ensures
    ∙ ap (chunk width c.args.place) (sym (number-at field.repr table corner c.index-table-corner.result (omega arith) c.index-table-corner.is)))))

pub returns : goal.returns
returns g c =
    let field = g.F.Represented in
    let end : c.corners.corner ≡ length c.args.table.now = omega arith in
    c.corners.invariant
    ∙ ap (sum_below (λ v. field.product (slice_index (map field.repr c.args.weights.now) v)
    (chunk c.args.self.now.width c.args.place (slice_index (map field.repr c.args.table.now) v)))) end
