use Rattle.std.proofs.Common.{◌≡◌, length, map, sym, ◌∙◌, ap, ap₂, arith}
use Rattle.std.specs.Prelude.{bit_xor, slice_index}
use Rattle.std.proofs.lemmas.List.{length-map}
use Rattle.field_base.specs.Basis.{sum_below}
use Rattle.field_base.specs.Chunks.{chunk}
use Rattle.field_base.proofs.BasisSums.{sum_below-none}
use Rattle.field_base.proofs.Places.{number-at}
use Rattle.field_slices.proofs.NextTerms.{sum-more}
use Rattle.small_tables.proofs.small_field.SmallField.mixed.Goals as goal

pub places-init : goal.places-init
places-init g c =
    let field = g.F.Represented in
    ap field.repr c.ZERO-sum.ensures ∙ g.met.F.PrimeCharacteristicRing.zero_law
    ∙ sym (sum_below-none (λ m. field.product (slice_index (map field.repr c.args.scalars.now) m)
    (chunk c.args.self.now.width m (field.repr c.args.x))))

pub places-preserved : goal.places-preserved
places-preserved g c =
    let field = g.F.Represented in
    let scalars = c.args.scalars.now in
    let place = c.places.place in
    sum-more (λ m. field.product (slice_index (map field.repr scalars) m) (chunk c.args.self.now.width m (field.repr c.args.x))) place
    (field.repr c.places.sum) (field.repr c.add-sum.result) c.places.invariant
    (g.met.F.Represented.add_law c.places.sum c.scaled-term.result c.add-sum.result c.add-sum.ensures
    ∙ ap (bit_xor (field.repr c.places.sum))
    (c.scaled-term.ensures
    ∙ ap₂ field.product (sym (number-at field.repr scalars place c.index-scalars-place.result (omega arith) c.index-scalars-place.is))
    c.coefficient-number.ensures))

pub returns : goal.returns
returns g c =
    let field = g.F.Represented in
    let scalars = c.args.scalars.now in
    let end : c.places.place ≡ length scalars = omega arith in
    c.places.invariant
    ∙ ap (sum_below (λ m. field.product (slice_index (map field.repr scalars) m) (chunk c.args.self.now.width m (field.repr c.args.x))))
    (end ∙ sym (length-map scalars field.repr))
