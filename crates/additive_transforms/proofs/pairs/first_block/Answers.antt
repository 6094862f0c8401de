use Rattle.std.proofs.Common.{ℕ, zero, suc, ◌-◌, ◌*◌, ◌%◌, ◌^◌, ◌<◌, ◌≤◌, arith}
use Rattle.additive_transforms.proofs.pairs.first_block.Goals as goal

few : (run stage : ℕ) → run < 2 ^ 64 → stage < 4 → run * (1 * 2 ^ (3 - stage) % 2 ^ 128) ≤ 2 ^ 67
few run zero fits below = omega (arith, fits)
few run (suc zero) fits below = omega (arith, fits)
few run (suc (suc zero)) fits below = omega (arith, fits)
few run (suc (suc (suc zero))) fits below = omega (arith, fits)
few run (suc (suc (suc (suc stage)))) fits below = absurd (omega (arith, below))

pub returns-clause-few : goal.returns-clause-few
returns-clause-few c = few c.args.run c.args.stage c.ranges.run.fits c.requires
