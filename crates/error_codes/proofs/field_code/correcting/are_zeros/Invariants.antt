use Rattle.std.proofs.Common.{◌≡◌, ◌<◌, ℕ, slice_index}
use Rattle.error_codes.proofs.field_code.correcting.are_zeros.Given as goal

abbrev pub invariant-loop-value : goal.invariant-loop-value
invariant-loop-value l = (m : ℕ) → m < l.value-index → slice_index l.values m ≡ 0
