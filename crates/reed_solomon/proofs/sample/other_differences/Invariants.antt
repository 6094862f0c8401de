use Rattle.std.proofs.Common.{◌≡◌, slice_index}
use Rattle.field_base.specs.Interpolation.{other_factors}
use Rattle.reed_solomon.specs.ByteFields.{byte_times}
use Rattle.reed_solomon.specs.declared.byte_field.ByteField.TheVariants.{Qr}
use Rattle.reed_solomon.proofs.sample.other_differences.Given as goal

abbrev pub invariant-loop-i : goal.invariant-loop-i
invariant-loop-i l =
    (l.product ≡ other_factors (byte_times Qr) (slice_index l.places) l.own (slice_index l.places l.own) l.i)
    × (l.own_place ≡ slice_index l.places l.own)
