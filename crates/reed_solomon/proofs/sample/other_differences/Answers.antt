use Rattle.std.proofs.Common.{◌≡◌, refl, slice_index, ◌∙◌, ap, arith}
use Rattle.field_base.specs.Interpolation.{other_factors}
use Rattle.reed_solomon.specs.ByteFields.{byte_times}
use Rattle.reed_solomon.specs.declared.byte_field.ByteField.TheVariants.{Qr}
use Rattle.reed_solomon.proofs.Factors.{no_factors, factor_step, factor_skipped, denominator-nonzero}
use Rattle.reed_solomon.proofs.sample.other_differences.Goals as goal
use Rattle.reed_solomon.proofs.sample.other_differences.Goals.{then-i-own, else-i-own}

pub loop-i-init : goal.loop-i-init
loop-i-init c =
    let point = slice_index c.args.places.now in
    (no_factors point c.args.own (point c.args.own), refl)

pub loop-i-preserved : goal.loop-i-preserved
loop-i-preserved c =
    let point = slice_index c.args.places.now in
    let so_far = c.loop-i.invariant in
    elim c.if-i-own.branch [
      | then-i-own w ↦ (
        w.product-is ∙ w.multiply-product.ensures
            ∙ factor_step point c.args.own (point c.args.own) c.loop-i.i c.loop-i.product _ w.if-i-own.true so_far.0 refl,
        refl,
      )
      | else-i-own w ↦ (
        w.product-is ∙ factor_skipped point c.args.own (point c.args.own) c.loop-i.i c.loop-i.product w.if-i-own.false so_far.0,
        refl,
      )
    ]

pub returns-clause-product : goal.returns-clause-product
returns-clause-product c =
    let point = slice_index c.args.places.now in
    let end : c.loop-i.i ≡ c.args.count = omega arith in
    c.loop-i.invariant.0 ∙ ap (other_factors (byte_times Qr) point c.args.own (point c.args.own)) end

pub returns-clause-invertible : goal.returns-clause-invertible
returns-clause-invertible c =
    denominator-nonzero (slice_index c.args.places.now) c.args.own c.args.count c.loop-i.i c.loop-i.product c.requires.distinct c.requires.within
    (omega arith) c.loop-i.invariant.0
