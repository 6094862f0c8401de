use Rattle.std.proofs.Common.{◌∙◌, ap, arith}
use Rattle.std.specs.Prelude.{bit_xor}
use Rattle.additive_transforms.proofs.PointSums.{point_is}
use Rattle.additive_transforms.proofs.points.point.Goals as goal

pub returns : goal.returns
returns c =
    ap (bit_xor c.args.z) c.sum_of_images.ensures
    ∙ point_is c.args.z c.args.p c.loop-bit.vectors c.loop-bit.invariant.0 (λ b below. c.loop-bit.invariant.1 b (omega arith))
