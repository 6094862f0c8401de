use Rattle.std.proofs.Common.{◌≡◌, ◌*◌, ◌^◌, ℕ, length, map, sym, ◌∙◌, ap, ap₂, arith}
use Rattle.std.specs.Prelude.{bit_xor, slice_index}
use Rattle.std.specs.List.{range_with_len}
use Rattle.field_base.proofs.Places.{number-at}
use Rattle.field_slices.proofs.PowerLists.{pushed}
use Rattle.small_tables.specs.SmallTables.{mixed}
use Rattle.small_tables.proofs.small_field.SmallField.next_scalars.Goals as goal

pub places-preserved : goal.places-preserved
places-preserved g c =
    let field = g.F.Represented in
    let scalars = c.args.scalars.now in
    let place = c.places.place in
    let width = c.args.self.now.width in
    let image : ℕ → ℕ = λ (y : ℕ). mixed field.product width (map field.repr scalars) y in
    let one : field.repr c.ONE.result ≡ 1 =
    ap field.repr c.ONE.ensures ∙ g.met.F.PrimeCharacteristicRing.one_law ∙ g.met.F.Field.unit_law in
    ap (map field.repr) c.in_ok-push.ensures.items
    ∙ pushed field.repr (λ (m : ℕ). bit_xor (image (field.product (field.repr c.args.x) (2 ^ (width * m))))
    (field.product (bit_xor 1 (field.repr c.args.r)) (slice_index (map field.repr scalars) m))) c.places.nexts.items place c.add-next.result
    c.places.invariant
    (g.met.F.Represented.add_law c.mixed-moved.result c.mul-in-places.result c.add-next.result c.add-next.ensures
    ∙ ap₂ bit_xor
    (c.mixed-moved.ensures
    ∙ ap image
    (g.met.F.Represented.mul_law c.args.x c.basis-element.result c.mul.result c.mul.ensures
    ∙ ap (field.product (field.repr c.args.x)) c.basis-element.ensures))
    (g.met.F.Represented.mul_law c.add-rest.result c.index-scalars-place.result c.mul-in-places.result c.mul-in-places.ensures
    ∙ ap₂ field.product
    (g.met.F.Represented.add_law c.ONE.result c.args.r c.add-rest.result c.add-rest.ensures ∙ ap (λ (u : ℕ). bit_xor u (field.repr c.args.r)) one)
    (sym (number-at field.repr scalars place c.index-scalars-place.result (omega arith) c.index-scalars-place.is))))

pub returns : goal.returns
returns g c =
    let field = g.F.Represented in
    let end : c.places.place ≡ length c.args.scalars.now = omega arith in
    c.places.invariant
    ∙ ap (λ (n : ℕ). map (λ (m : ℕ). bit_xor (mixed field.product c.args.self.now.width (map field.repr c.args.scalars.now)
    (field.product (field.repr c.args.x) (2 ^ (c.args.self.now.width * m))))
    (field.product (bit_xor 1 (field.repr c.args.r)) (slice_index (map field.repr c.args.scalars.now) m))) (range_with_len 0 n)) end
