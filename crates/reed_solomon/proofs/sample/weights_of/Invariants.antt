use Rattle.std.proofs.Common.{◌≡◌, ◌<◌, ℕ, length, slice_index}
use Rattle.field_base.specs.Interpolation.{other_factors}
use Rattle.reed_solomon.specs.ByteFields.{byte_times}
use Rattle.reed_solomon.specs.declared.byte_field.ByteField.TheVariants.{Qr}
use Rattle.reed_solomon.proofs.sample.weights_of.Given as goal

abbrev pub invariant-loop-own : goal.invariant-loop-own
invariant-loop-own l =
    (length l.weights ≡ 256)
    × ((j : ℕ) → j < l.own
    → byte_times Qr (other_factors (byte_times Qr) (slice_index l.places) j (slice_index l.places j) l.count) (slice_index l.weights j) ≡ 1)
