use Rattle.std.proofs.Common.{◌*◌, ◌^◌, ℕ, ◌∙◌, ap, arith, ◌%◌, length-set, sym}
use Rattle.field_base.specs.Remainder.{poly64_modulus, rem}
use Rattle.many_words.proofs.ScalarImages.{image_set, moved, products_of_images}
use Rattle.many_words.proofs.mapped_words.polynomial_images.Goals as goal

pub loop-bit-preserved : goal.loop-bit-preserved
loop-bit-preserved c =
    let long = c.loop-bit.invariant.0 in
    let test = c.loop-bit-test.true in (
      length-set c.loop-bit.images c.loop-bit.bit c.reduce_64.result ∙ long,
      image_set (λ j. rem 64 poly64_modulus (c.args.scalar * 2 ^ j)) c.loop-bit.images c.loop-bit.bit c.reduce_64.result
          (omega (arith, long, test))
          (c.reduce_64.ensures
          ∙ ap (rem 64 poly64_modulus)
          (sym c.split_128-low.ensures ∙ ap (λ (x : ℕ). x * 2 ^ c.loop-bit.bit % 2 ^ 128) c.from.ensures
          ∙ moved c.args.scalar c.loop-bit.bit c.ranges.scalar.fits test))
          c.loop-bit.invariant.1,
    )

pub returns : goal.returns
returns c =
    products_of_images c.args.scalar c.loop-bit.images c.loop-bit.invariant.0 c.ranges.scalar.fits
    (λ j below. c.loop-bit.invariant.1 j (omega (arith, below, c.loop-bit-test.false)))
