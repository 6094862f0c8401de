use Rattle.std.proofs.Common.{◌∙◌, ap, lit<, refl, slice_index, sym}
use Rattle.std.specs.Prelude.{bit_xor}
use native.Mathlib.Numerals.{add-one}
use Rattle.field_base.proofs.Interpolation.{factors_more, factors_skip}
use Rattle.field_base.specs.Basis.{product_below}
use Rattle.field_base.specs.Interpolation.{other_factors}
use Rattle.reed_solomon.specs.ByteFields.{byte_times}
use Rattle.reed_solomon.proofs.ByteFields.{bytes_are_fields}
use Rattle.error_codes.proofs.factors.differences.Goals as goal
use Rattle.error_codes.proofs.factors.differences.Goals.{then-i-own, else-i-own}

pub loop-i-init : goal.loop-i-init
unfolding product_below
loop-i-init c = refl

pub loop-i-preserved : goal.loop-i-preserved
loop-i-preserved c =
    let times = byte_times c.args.field in
    let point = slice_index c.args.indexes.now in
    let i = c.loop-i.i in
    elim c.if-i-own.branch [
      | then-i-own w ↦ w.product-is ∙ w.multiply-product.ensures ∙ ap (λ z. times z (bit_xor c.args.x (point i))) c.loop-i.invariant
          ∙ sym (factors_more 8 times (bytes_are_fields c.args.field) (lit< tt) point c.args.own c.args.x i w.if-i-own.true)
          ∙ ap (other_factors times point c.args.own c.args.x) (sym (add-one i))
      | else-i-own w ↦ w.product-is ∙ c.loop-i.invariant
          ∙ sym (factors_skip 8 times (bytes_are_fields c.args.field) (lit< tt) point c.args.own c.args.x i w.if-i-own.false)
          ∙ ap (other_factors times point c.args.own c.args.x) (sym (add-one i))
    ]
