use Rattle.std.proofs.Common.{◌≡◌, ℕ, ◌+◌, ◌-◌, ◌*◌, ◌^◌, ◌<◌, ◌∙◌, ap, subst, arith, lit<}
use Rattle.field_base.proofs.RemainderRing.{ghash_ring}
use Rattle.ghash_slices.specs.LowStages.{ghash_cantor_vector, ghash_product}
use Rattle.ghash_slices.proofs.GhashVectors.{ghash_vectors}
use Rattle.additive_transforms.proofs.StagesFrom.{all_from}
use Rattle.additive_transforms.proofs.SubspaceSteps.{first_subspace_value}
use Rattle.additive_transforms.proofs.whole.every_stage.Goals as goal

pub stages_from-requires-clause-few : goal.stages_from-requires-clause-few
stages_from-requires-clause-few g c = omega (arith, c.requires.stages.0)

pub stages_from-requires-clause-room : goal.stages_from-requires-clause-room
stages_from-requires-clause-room g c =
    let all : c.args.stages ≡ c.args.stages - 0 = omega arith in
    subst (λ (n : ℕ). g.K.Kernel.count c.args.kernel.now + n * 2 ^ (c.args.stages - 1) < 2 ^ 64) all c.requires.room

pub returns-clause-values : goal.returns-clause-values
returns-clause-values g c =
    all_from ghash_cantor_vector ghash_ring g.K.Kernel.value g.K.Kernel.range_law c.args.z (omega (arith, c.requires.stages.0)) (lit< tt) ghash_vectors
    c.args.values.now c.stages_from.new.values c.requires.stages.1 (c.stages_from.ensures.length ∙ c.requires.stages.1) c.args.inverse
    (c.stages_from.ensures.stages c.args.z (c.to_tower_128.ensures.image ∙ first_subspace_value ghash_product c.args.z))

pub returns-clause-count : goal.returns-clause-count
returns-clause-count g c =
    let all : c.args.stages - 0 ≡ c.args.stages = omega arith in
    c.stages_from.ensures.counted
    ∙ ap (λ (n : ℕ). g.K.Kernel.count c.args.kernel.now + n * 2 ^ (c.args.stages - 1)) all
