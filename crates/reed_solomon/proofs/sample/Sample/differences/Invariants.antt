use Rattle.std.proofs.Common.{◌≡◌, slice_index}
use Rattle.std.specs.Prelude.{bit_xor}
use Rattle.field_base.specs.Basis.{product_below}
use Rattle.reed_solomon.specs.ByteFields.{byte_times}
use Rattle.reed_solomon.specs.declared.byte_field.ByteField.TheVariants.{Qr}
use Rattle.reed_solomon.proofs.sample.Sample.differences.Given as goal

abbrev pub invariant-loop-i : goal.invariant-loop-i
invariant-loop-i l = l.product ≡ product_below (byte_times Qr) (λ i. bit_xor l.x (slice_index l.self.places i)) l.i
