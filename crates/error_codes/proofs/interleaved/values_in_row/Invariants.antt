use Rattle.std.proofs.Common.{◌≡◌, ◌<◌, ◌+◌, ◌*◌, ℕ, length, slice_index}
use Rattle.reed_solomon.specs.ByteFields.{byte_times}
use Rattle.error_codes.specs.Correcting.{code_value}
use Rattle.error_codes.proofs.interleaved.values_in_row.Given as goal

-- the values of the first symbols of each word
abbrev pub invariant-loop-i : goal.invariant-loop-i
invariant-loop-i l =
    (length l.values ≡ l.depth)
    × ((c : ℕ) → c < l.depth
    → slice_index l.values c ≡ code_value (byte_times l.fn.field) l.i (λ k. slice_index l.fn.words (k * l.depth + c)) l.fn.x)
