use Rattle.std.proofs.Common.{rules, ◌≡◌, ◌∙◌, ap, arith}
use Rattle.any_field.proofs.ShiftAndAdd.{all_bits, all_left, fewer_left, no_bits, products, step}
use Rattle.any_field.proofs.byte_lanes.multiply_byte_lanes.Goals as goal

pub loop-bit-init : goal.loop-bit-init
loop-bit-init g c = (
  no_bits c.args.tail (search rules) g.row.N c.args.left c.args.right c.fits-left.0 c.fits-right.0 c.fits-right.1,
  all_left c.args.right c.fits-right.1,
)

pub loop-bit-preserved : goal.loop-bit-preserved
loop-bit-preserved g c = (
  step c.args.tail (search rules) g.row.N c.loop-bit.bit c.args.left c.args.right c.loop-bit.product c.loop-bit.rest c.loop-bit-test.true
      c.fits-left.0 c.fits-right.0 c.fits-left.1 c.fits-right.1 c.loop-bit.invariant.0 c.loop-bit.invariant.1,
  fewer_left c.loop-bit.bit c.args.right c.loop-bit.rest c.loop-bit.invariant.1,
)

pub returns : goal.returns
returns g c =
    let all : c.loop-bit.bit ≡ 8 = omega (arith, c.loop-bit-test.false, c.loop-bit.auto.bit-end) in
    all_bits c.args.tail c.args.left c.args.right c.loop-bit.product
    (c.loop-bit.invariant.0 ∙ ap (λ k. products c.args.tail k c.args.left c.args.right) all)
