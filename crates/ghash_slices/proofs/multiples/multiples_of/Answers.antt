use Rattle.std.proofs.Common.{◌<◌, ◌≤◌, refl, arith}
use Rattle.ghash_slices.proofs.DigitMultiples.{first_multiples, next_multiples}
use Rattle.ghash_slices.proofs.multiples.multiples_of.Goals as goal

pub loop-half-init : goal.loop-half-init
loop-half-init c = (refl, first_multiples c.args.scalar c.ranges.scalar.fits)

pub loop-half-preserved : goal.loop-half-preserved
loop-half-preserved c =
    let half = c.loop-half.half in
    let few : half < 8 = omega arith in
    let some : 1 ≤ half = c.loop-half.auto.half in
    next_multiples c.args.scalar half c.loop-half.products c.times_power-even.result c.ranges.scalar.fits some few c.loop-half.invariant.0
    c.loop-half.invariant.1 c.times_power-even.ensures
