use Rattle.std.proofs.Common.{◌≡◌, ◌<◌, ◌≤◌, ◌+◌, ℕ, length, slice_index}
use Rattle.std.specs.Prelude.{nat_eq, ◌||◌}
use Rattle.error_codes.specs.Correcting.{code_value}
use Rattle.error_codes.specs.Filling.{is_marked}
use Rattle.reed_solomon.specs.ByteFields.{byte_times}
use Rattle.error_codes.proofs.locating.mark_roots.Given as goal

abbrev pub invariant-loop-i : goal.invariant-loop-i
invariant-loop-i l =
    (length l.marks ≡ 256)
    × ((j : ℕ) → j < l.i → is_marked l.marks j
    ≡ (is_marked l.initial.marks j || nat_eq (code_value (byte_times l.field) (l.register.size + 1) (slice_index l.register.coefficients)
    (slice_index l.indexes j)) 0))
    × ((j : ℕ) → l.i ≤ j → is_marked l.marks j ≡ is_marked l.initial.marks j)
