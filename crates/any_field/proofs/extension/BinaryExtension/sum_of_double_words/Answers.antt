use Rattle.std.proofs.Common.{◌<◌, ◌*◌, ◌+◌, ◌^◌, length, ap, ℕ, ◌%◌, arith, rules, ◌∙◌}
use Rattle.std.specs.Prelude.{bit_xor}
use Rattle.field_base.specs.Carryless.{carryless}
use Rattle.any_field.proofs.DotSteps.{dot-start, dot-more, dot-done, double-sum}
use Rattle.any_field.proofs.extension.BinaryExtension.sum_of_double_words.Goals as goal

pub loop-place-init : goal.loop-place-init
loop-place-init g c =
    let s = c.args.self in
    dot-start g.W.Reads.number s.degree s.tail s.ratio s.context c.args.left.now c.args.right.now

pub loop-place-preserved : goal.loop-place-preserved
loop-place-preserved g c =
    let s = c.args.self in
    let loop = c.loop-place in
    let within : loop.place < length c.args.left.now = omega arith in
    let within_other : loop.place < length c.args.right.now = omega (arith, c.requires) in
    dot-more g.W.Reads.number s.degree s.tail s.ratio s.context c.args.left.now c.args.right.now loop.place (loop.high * 2 ^ 128 + loop.low)
    (bit_xor loop.high c.multiply_128-product_low.result.1 * 2 ^ 128 + bit_xor loop.low c.multiply_128-product_low.result.0) c.index-left-place.result c.index-right-place.result
    c.low_bits-x.result c.low_bits-y.result within within_other c.index-left-place.is c.index-right-place.is
    (c.low_bits-x.ensures ∙ ap (λ (z : ℕ). z % 2 ^ s.degree) c.stored.ensures) (c.low_bits-y.ensures ∙ ap (λ (z : ℕ). z % 2 ^ s.degree) c.stored-in-loop-place.ensures)
    (double-sum loop.low loop.high c.multiply_128-product_low.result.0 c.multiply_128-product_low.result.1 (carryless c.low_bits-x.result c.low_bits-y.result) loop.auto.low-fits.fits (search rules)
    c.multiply_128-product_low.ensures) loop.invariant

pub reduce-requires-clause-fits : goal.reduce-requires-clause-fits
reduce-requires-clause-fits g c = c.loop-place.invariant.fits

pub returns : goal.returns
returns g c =
    let s = c.args.self in
    c.reduce.ensures
    ∙ dot-done g.W.Reads.number s.degree s.tail s.ratio s.context c.args.left.now c.args.right.now c.loop-place.place (c.loop-place.high * 2 ^ 128 + c.loop-place.low) (omega arith)
    c.loop-place.invariant
