use Rattle.std.proofs.Common.{◌≡◌, ℕ, ◌+◌, ◌-◌, ◌*◌, ◌^◌, false, length, map}
use Rattle.std.specs.Prelude.{bit_xor, slice_index}
use Rattle.field_base.specs.LinearMaps.{linear_image}
use Rattle.ghash_slices.specs.LowStages.{ghash_product}
use Rattle.additive_transforms.proofs.BlockStages.{StageSoFar}
use Rattle.additive_transforms.proofs.pairs.low_stage.Given as goal

-- the blocks before have their butterflies
abbrev pub invariant-loop-block : goal.invariant-loop-block
invariant-loop-block g l =
    (length l.values ≡ length l.fn.values)
    × StageSoFar false ghash_product
    (λ (q : ℕ). bit_xor (slice_index l.shifts l.stage) (linear_image l.basis (l.fn.first_run * 2 ^ (3 - l.stage) + q))) l.half l.block
    (map g.P.PairKernel.value l.fn.values) (map g.P.PairKernel.value l.values)
