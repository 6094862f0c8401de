use Rattle.std.proofs.Common.{◌≡◌, ◌-◌, ◌+◌, ◌<◌, ℕ, slice_index}
use Rattle.field_base.specs.Powers.{power}
use Rattle.reed_solomon.specs.ByteFields.{byte_times}
use Rattle.error_codes.specs.Correcting.{code_value}
use Rattle.error_codes.specs.Interleaved.{interleaved_word}
use Rattle.error_codes.proofs.WordColumns.{ColumnsChanged}
use Rattle.error_codes.proofs.code.CorrectingCode.syndromes_interleaved.Given as goal

-- the values of the words before this one are written
abbrev pub invariant-loop-c : goal.invariant-loop-c
invariant-loop-c l =
    let code = l.self in
    ColumnsChanged (code.word_length - code.dimension) l.depth
    (λ c _ new. (m : ℕ) → m < code.word_length - code.dimension → slice_index new m
    ≡ code_value (byte_times code.field) code.word_length (slice_index (interleaved_word code.word_length l.depth l.words c))
    (power 1 (byte_times code.field) code.root (code.first_root + m)))
    l.initial.values l.values l.c
