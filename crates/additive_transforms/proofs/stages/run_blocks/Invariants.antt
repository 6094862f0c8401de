use Rattle.std.proofs.Common.{◌≡◌, ℕ, ◌-◌, ◌*◌, ◌<◌, length, map}
use Rattle.std.specs.Prelude.{bit_xor}
use Rattle.field_base.specs.LinearMaps.{linear_image}
use Rattle.additive_transforms.specs.Elements.{twiddle_basis}
use Rattle.additive_transforms.proofs.BlockStages.{StageSoFar}
use Rattle.additive_transforms.proofs.stages.run_blocks.Given as goal

-- the blocks before have their butterflies, the twiddle is that of the last of them, and their pairs are counted
abbrev pub invariant-loop-block : goal.invariant-loop-block
invariant-loop-block g l =
    let by = g.K.StageArithmetic in
    let basis = twiddle_basis by.width by.vector in
    (length l.values ≡ length l.fn.values)
    × StageSoFar l.inverse by.product (λ (q : ℕ). bit_xor (by.number l.shift) (linear_image basis q)) l.half l.block
    (map by.value l.fn.values) (map by.value l.values)
    × (0 < l.block → by.number l.twiddle ≡ bit_xor (by.number l.shift) (linear_image basis (l.block - 1)))
    × by.counted l.fn.counter l.counter (l.block * l.half)
