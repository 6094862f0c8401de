use Rattle.std.proofs.Common.{◌≡◌, ℕ, ◌+◌, ◌*◌, ◌^◌}
use Rattle.std.specs.Prelude.{bit_xor}
use Rattle.field_base.specs.LinearMaps.{linear_image}
use Rattle.additive_transforms.specs.Elements.{twiddle_basis}
use Rattle.additive_transforms.proofs.elements.twiddles.next_twiddle.Given as goal

-- the ones below bit `element` were taken out, and a carry is to come there
abbrev pub invariant-loop-rest : goal.invariant-loop-rest
invariant-loop-rest g l =
    let by = g.K.StageArithmetic in
    let basis = twiddle_basis by.width by.vector in
    ((l.rest + 1) * 2 ^ l.element ≡ l.fn.block + 1)
    × ((shift : ℕ) → by.number l.fn.twiddle ≡ bit_xor shift (linear_image basis l.fn.block)
    → by.number l.sum ≡ bit_xor shift (linear_image basis (l.rest * 2 ^ l.element)))

abbrev pub decreases-loop-rest : goal.decreases-loop-rest
decreases-loop-rest g l = l.rest
