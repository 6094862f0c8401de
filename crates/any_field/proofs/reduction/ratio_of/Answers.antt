use Rattle.std.proofs.Common.{◌≡◌, ℕ, subst, arith}
use Rattle.any_field.proofs.RatioSteps.{IsPartialRatio, ratio-start, ratio-end, ratio-next}
use Rattle.any_field.proofs.reduction.ratio_of.Goals as goal

pub times_x-rest-requires-clause-fits : goal.times_x-rest-requires-clause-fits
times_x-rest-requires-clause-fits c = c.loop.invariant.rest_below

pub loop-init : goal.loop-init
loop-init c = ratio-start c.args.width c.args.tail c.requires.fits

pub loop-preserved : goal.loop-preserved
loop-preserved c =
    ratio-next c.args.width c.args.tail c.loop.counter c.loop.ratio c.loop.rest c.times_x-rest.result c.requires.wide c.requires.narrow
    c.requires.fits c.loop-test.true c.loop.invariant c.times_x-rest.ensures

pub returns : goal.returns
returns c =
    let last : c.loop.counter ≡ c.args.width = omega arith in
    ratio-end c.args.width c.args.tail c.loop.ratio c.loop.rest c.requires.wide c.requires.narrow c.requires.fits
    (subst (λ (n : ℕ). IsPartialRatio c.args.width c.args.tail n c.loop.ratio c.loop.rest) last c.loop.invariant)
