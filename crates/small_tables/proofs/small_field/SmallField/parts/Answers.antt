use Rattle.std.proofs.Common.{◌≡◌, ℕ, length, map, ◌∙◌, ap, arith}
use Rattle.std.specs.Prelude.{slice_index}
use Rattle.std.specs.List.{range_with_len}
use Rattle.field_base.specs.Basis.{sum_below}
use Rattle.field_base.specs.Chunks.{chunk}
use Rattle.field_slices.proofs.PowerLists.{pushed}
use Rattle.small_tables.proofs.small_field.SmallField.parts.Goals as goal

pub power_of_two-count-requires : goal.power_of_two-count-requires
power_of_two-count-requires g c = omega (arith, c.args.self.now.few)

pub part-part-requires-clause-place : goal.part-part-requires-clause-place
part-part-requires-clause-place g c = let is = c.power_of_two-count.ensures.power in omega (arith, is)

pub places-preserved : goal.places-preserved
places-preserved g c =
    let field = g.F.Represented in
    ap (map field.repr) c.in_ok-push.ensures.items
    ∙ pushed field.repr (λ (u : ℕ). sum_below (λ (v : ℕ). field.product (slice_index (map field.repr c.args.weights.now) v)
    (chunk c.args.self.now.width u (slice_index (map field.repr c.args.table.now) v))) (length c.args.table.now)) c.places.parts.items
    c.places.place c.part-part.result c.places.invariant c.part-part.ensures

pub returns : goal.returns
returns g c =
    let field = g.F.Represented in
    let end : c.places.place ≡ c.power_of_two-count.result = omega arith in
    c.places.invariant
    ∙ ap (λ (n : ℕ). map (λ (u : ℕ). sum_below (λ (v : ℕ). field.product (slice_index (map field.repr c.args.weights.now) v)
    (chunk c.args.self.now.width u (slice_index (map field.repr c.args.table.now) v))) (length c.args.table.now)) (range_with_len 0 n))
    (end ∙ c.power_of_two-count.ensures.power)
