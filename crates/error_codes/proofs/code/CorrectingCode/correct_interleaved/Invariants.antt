use Rattle.std.proofs.Common.{◌≡◌, ◌-◌, ◌<◌, ℕ, length, slice_index}
use Rattle.std.specs.Prelude.{nat_eq}
use Rattle.reed_solomon.specs.ByteFields.{byte_times}
use Rattle.error_codes.specs.Interleaved.{IsSettled}
use Rattle.error_codes.proofs.WordColumns.{ColumnsChanged}
use Rattle.error_codes.proofs.code.CorrectingCode.correct_interleaved.Given as goal

-- the words before this one are settled
abbrev pub invariant-loop-c : goal.invariant-loop-c
invariant-loop-c l =
    let code = l.self in
    (length l.corrected ≡ l.depth)
    × ColumnsChanged code.word_length l.depth
    (λ c old new. IsSettled (byte_times code.field) code.root code.first_root code.word_length (code.word_length - code.dimension)
    old l.erasures (nat_eq (slice_index l.corrected c) 1) new)
    l.initial.words l.words l.c
    × ((c : ℕ) → c < l.c → slice_index l.corrected c < 2)
