use Rattle.std.proofs.Common.{◌≡◌, ◌+◌, ℕ, slice_index, refl, ◌∙◌, ap, arith, lit<}
use Rattle.field_base.specs.Basis.{sum_below}
use Rattle.error_codes.specs.Correcting.{code_value}
use Rattle.error_codes.proofs.CodeValues.{horner-more}
use Rattle.reed_solomon.specs.ByteFields.{byte_times}
use Rattle.reed_solomon.proofs.ByteFields.{bytes_are_fields}
use Rattle.error_codes.proofs.locating.reverse_value.Goals as goal

pub loop-i-init : goal.loop-i-init
unfolding sum_below
loop-i-init c = refl

pub loop-i-preserved : goal.loop-i-preserved
loop-i-preserved c =
    horner-more 8 (byte_times c.args.field) (lit< tt) (bytes_are_fields c.args.field) c.loop-i.i (slice_index c.args.register.now.coefficients) c.args.x
    c.loop-i.value c.multiply_masked.result _ (omega arith) c.loop-i.invariant
    (c.multiply_masked.ensures ∙ (bytes_are_fields c.args.field).ring.comm c.args.x c.loop-i.value) refl

pub returns : goal.returns
returns c =
    let end : c.loop-i.i ≡ c.args.register.now.size + 1 = omega arith in
    c.loop-i.invariant
    ∙ ap (λ (k : ℕ). code_value (byte_times c.args.field) k (slice_index c.args.register.now.coefficients) c.args.x) end
