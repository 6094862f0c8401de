use Rattle.std.proofs.Common.{◌≡◌, ◌+◌, ◌*◌, ◌<◌, ℕ, length, slice_index}
use Rattle.field_base.specs.Powers.{power}
use Rattle.reed_solomon.specs.ByteFields.{byte_times}
use Rattle.error_codes.specs.Correcting.{code_value}
use Rattle.error_codes.specs.Interleaved.{interleaved_word}
use Rattle.error_codes.proofs.code.CorrectingCode.write_rows.Given as goal

-- the rows of the values at the roots before this one are written
abbrev pub invariant-loop-m : goal.invariant-loop-m
invariant-loop-m l =
    let code = l.self in
    (length l.values ≡ length l.initial.values)
    × ((k c : ℕ) → k < l.m → c < l.depth → slice_index l.values (k * l.depth + c)
    ≡ code_value (byte_times code.field) code.word_length (slice_index (interleaved_word code.word_length l.depth l.words c))
    (power 1 (byte_times code.field) code.root (code.first_root + k)))
