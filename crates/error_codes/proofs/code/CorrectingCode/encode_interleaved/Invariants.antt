use Rattle.std.proofs.Common.{◌≡◌, ◌-◌, ◌<◌, ℕ, slice_index}
use Rattle.reed_solomon.specs.ByteFields.{byte_times}
use Rattle.error_codes.specs.Correcting.{HasRoots}
use Rattle.error_codes.proofs.WordColumns.{ColumnsChanged}
use Rattle.error_codes.proofs.code.CorrectingCode.encode_interleaved.Given as goal

-- the words before this one are encoded
abbrev pub invariant-loop-c : goal.invariant-loop-c
invariant-loop-c l =
    let code = l.self in
    ColumnsChanged code.word_length l.depth
    (λ _ old new. ((i : ℕ) → i < code.dimension → slice_index new i ≡ slice_index old i)
    × HasRoots (byte_times code.field) code.root code.first_root (code.word_length - code.dimension) new)
    l.initial.words l.words l.c
