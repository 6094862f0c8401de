use Rattle.std.proofs.Common.{◌-◌, ◌*◌, ◌^◌, ◌≤◌, ◌∙◌, ap, arith}
use Rattle.std.proofs.Math.Nat.{mul-le-mul_right}
use Rattle.ghash_slices.specs.Cantor.{subspace_value}
use Rattle.ghash_slices.specs.LowStages.{ghash_product}
use Rattle.additive_transforms.proofs.whole.upper_stages.Goals as goal

pub stages_from-requires-clause-few : goal.stages_from-requires-clause-few
stages_from-requires-clause-few g c = omega (arith, c.requires.stages.0)

pub stages_from-requires-clause-room : goal.stages_from-requires-clause-room
stages_from-requires-clause-room g c =
    let fewer : c.args.stages - 4 ≤ c.args.stages = omega arith in
    let pairs : (c.args.stages - 4) * 2 ^ (c.args.stages - 1) ≤ c.args.stages * 2 ^ (c.args.stages - 1) =
    mul-le-mul_right (2 ^ (c.args.stages - 1)) fewer in
    omega (arith, pairs, c.requires.room)

pub returns-clause-left : goal.returns-clause-left
returns-clause-left g c =
    c.stages_from.ensures.stages c.args.z
    (c.shift-lowest.ensures ∙ ap (subspace_value ghash_product 4) c.to_tower_128.ensures.image)
