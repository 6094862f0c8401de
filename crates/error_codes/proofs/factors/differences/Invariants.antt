use Rattle.std.proofs.Common.{◌≡◌, slice_index}
use Rattle.field_base.specs.Interpolation.{other_factors}
use Rattle.reed_solomon.specs.ByteFields.{byte_times}
use Rattle.error_codes.proofs.factors.differences.Given as goal

abbrev pub invariant-loop-i : goal.invariant-loop-i
invariant-loop-i l = l.product ≡ other_factors (byte_times l.field) (slice_index l.indexes) l.own l.x l.i
