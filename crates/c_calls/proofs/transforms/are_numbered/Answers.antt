use Rattle.std.proofs.Common.{◌-◌, ◌^◌, ◌≤◌, refl, arith}
use Rattle.std.proofs.Math.Pow.{pow_mono}
use Rattle.c_calls.proofs.transforms.are_numbered.Goals as goal

-- two numbers of 64 bits have a sum of at most 65
pub returns-then-bits-gt64 : goal.returns-then-bits-gt64
returns-then-bits-gt64 c =
    let more : 2 ^ 65 ≤ 2 ^ (c.args.elements - 3) = pow_mono {i = 65} {j = c.args.elements - 3} (omega (arith, c.if-bits-gt64.true)) in
    ((λ _. omega (arith, more, c.ranges.first_run.fits, c.ranges.runs.fits)), (λ _. refl))
