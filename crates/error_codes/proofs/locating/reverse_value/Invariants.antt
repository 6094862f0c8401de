use Rattle.std.proofs.Common.{◌≡◌, slice_index}
use Rattle.error_codes.specs.Correcting.{code_value}
use Rattle.reed_solomon.specs.ByteFields.{byte_times}
use Rattle.error_codes.proofs.locating.reverse_value.Given as goal

abbrev pub invariant-loop-i : goal.invariant-loop-i
invariant-loop-i l = l.value ≡ code_value (byte_times l.field) l.i (slice_index l.register.coefficients) l.x
