use Rattle.std.proofs.Common.{ℕ, ◌<◌, ◌∙◌, arith}
use Rattle.std.specs.Prelude.{slice_index}
use Rattle.additive_transforms.specs.Rows.{level_of}
use Rattle.additive_transforms.specs.declared.lane_planes.TheConstants.{VECTORS}
use Rattle.additive_transforms.proofs.LaneProducts.{next_vector, no_vectors, vector_at, vector_fits}
use Rattle.additive_transforms.proofs.lane_planes.add_lane_products.Goals as goal

pub loop-bit-init : goal.loop-bit-init
loop-bit-init g c j below = no_vectors (level_of g.P.Planes.depth) j _ _

pub loop-bit-preserved : goal.loop-bit-preserved
loop-bit-preserved g c j below =
    let bit : ℕ = c.loop-bit.bit in
    let few : bit < 5 = omega arith in
    c.add_product_where.ensures (slice_index VECTORS bit) (vector_fits bit few) c.multiples_8.ensures j below
    ∙ next_vector (level_of g.P.Planes.depth) bit j (slice_index VECTORS bit) _ _ _ (vector_at bit few) (c.loop-bit.invariant j below)
