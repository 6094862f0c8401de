use Rattle.std.proofs.Common.{◌≡◌, ◌*◌, ◌^◌, ℕ, length, map, sym, ◌∙◌, ap, ap₂, arith}
use Rattle.std.specs.Prelude.{bit_xor, slice_index}
use Rattle.std.proofs.lemmas.List.{length-map}
use Rattle.field_base.specs.Basis.{sum_below}
use Rattle.field_base.proofs.BasisSums.{sum_below-none}
use Rattle.field_base.proofs.Places.{number-at}
use Rattle.field_slices.proofs.NextTerms.{sum-more}
use Rattle.small_tables.specs.SmallTables.{mixed}
use Rattle.small_tables.proofs.small_field.SmallField.mixed_sum.Goals as goal

pub places-init : goal.places-init
places-init g c =
    let field = g.F.Represented in
    ap field.repr c.ZERO-sum.ensures ∙ g.met.F.PrimeCharacteristicRing.zero_law
    ∙ sym (sum_below-none (λ u. field.product (2 ^ (c.args.self.now.width * u))
    (mixed field.product c.args.self.now.width (map field.repr c.args.scalars.now) (slice_index (map field.repr c.args.parts.now) u))))

pub places-preserved : goal.places-preserved
places-preserved g c =
    let field = g.F.Represented in
    let parts = c.args.parts.now in
    let place = c.places.place in
    let width = c.args.self.now.width in
    let image : ℕ → ℕ = λ (y : ℕ). mixed field.product width (map field.repr c.args.scalars.now) y in
    sum-more (λ u. field.product (2 ^ (width * u)) (image (slice_index (map field.repr parts) u))) place
    (field.repr c.places.sum) (field.repr c.add-sum.result) c.places.invariant
    (g.met.F.Represented.add_law c.places.sum c.mul.result c.add-sum.result c.add-sum.ensures
    ∙ ap (bit_xor (field.repr c.places.sum))
    (g.met.F.Represented.mul_law c.basis-element.result c.mixed-image.result c.mul.result c.mul.ensures
    ∙ ap₂ field.product c.basis-element.ensures
    (c.mixed-image.ensures ∙ ap image (sym (number-at field.repr parts place c.index-parts-place.result (omega arith) c.index-parts-place.is)))))

pub returns : goal.returns
returns g c =
    let field = g.F.Represented in
    let parts = c.args.parts.now in
    let end : c.places.place ≡ length parts = omega arith in
    c.places.invariant
    ∙ ap (sum_below (λ u. field.product (2 ^ (c.args.self.now.width * u))
    (mixed field.product c.args.self.now.width (map field.repr c.args.scalars.now) (slice_index (map field.repr parts) u))))
    (end ∙ sym (length-map parts field.repr))
