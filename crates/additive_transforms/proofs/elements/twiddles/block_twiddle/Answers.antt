use Rattle.std.proofs.Common.{◌≡◌, ℕ, ◌+◌, ◌-◌, ◌<◌, ◌∙◌, ap, arith}
use Rattle.std.specs.Prelude.{bit_xor}
use Rattle.field_base.specs.LinearMaps.{linear_image}
use Rattle.additive_transforms.specs.Elements.{twiddle_basis}
use Rattle.additive_transforms.proofs.Carries.{no_image}
use Rattle.additive_transforms.proofs.elements.twiddles.block_twiddle.Goals as goal

pub returns-then-block-eq0 : goal.returns-then-block-eq0
returns-then-block-eq0 g c = no_image _ c.args.block (g.K.StageArithmetic.number c.args.shift) c.if-block-eq0.true

pub returns : goal.returns
returns g c =
    let shift = g.K.StageArithmetic.number c.args.shift in
    let above : 0 < c.args.block = omega (arith, c.if-block-eq0.false) in
    let same : c.args.block - 1 + 1 ≡ c.args.block = omega (arith, above) in
    c.next_twiddle.ensures shift (c.requires.before above)
    ∙ ap (λ (n : ℕ). bit_xor shift (linear_image (twiddle_basis g.K.StageArithmetic.width g.K.StageArithmetic.vector) n)) same
