use Rattle.std.proofs.Common.{◌≡◌, ℕ, length, map, sym, ◌∙◌, ap, arith}
use Rattle.std.specs.Prelude.{slice_index}
use Rattle.std.specs.List.{range_with_len}
use Rattle.field_base.proofs.Places.{number-at}
use Rattle.field_slices.proofs.PowerLists.{pushed}
use Rattle.small_tables.specs.SmallTables.{mixed}
use Rattle.small_tables.proofs.small_field.SmallField.images.Goals as goal

pub corners-preserved : goal.corners-preserved
corners-preserved g c =
    let field = g.F.Represented in
    let weights = c.args.weights.now in
    let image : ℕ → ℕ = λ (y : ℕ). mixed field.product c.args.self.now.width (map field.repr c.args.scalars.now) y in
    ap (map field.repr) c.in_ok-push.ensures.items
    ∙ pushed field.repr (λ (v : ℕ). image (slice_index (map field.repr weights) v)) c.corners.images.items c.corners.corner
    c.mixed-image.result c.corners.invariant
    (c.mixed-image.ensures
    ∙ ap image (sym (number-at field.repr weights c.corners.corner c.index-weights-corner.result (omega arith) c.index-weights-corner.is)))

pub returns : goal.returns
returns g c =
    let field = g.F.Represented in
    let end : c.corners.corner ≡ length c.args.weights.now = omega arith in
    c.corners.invariant
    ∙ ap (λ (n : ℕ). map (λ (v : ℕ). mixed field.product c.args.self.now.width (map field.repr c.args.scalars.now)
    (slice_index (map field.repr c.args.weights.now) v)) (range_with_len 0 n)) end
