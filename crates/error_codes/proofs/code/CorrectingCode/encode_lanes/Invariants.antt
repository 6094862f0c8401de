use Rattle.std.proofs.Common.{◌≡◌, ◌<◌, ◌≤◌, ◌+◌, ◌-◌, ◌*◌, ℕ, length, slice_index}
use Rattle.reed_solomon.specs.ByteFields.{byte_times}
use Rattle.error_codes.specs.Correcting.{HasRoots}
use Rattle.error_codes.specs.Interleaved.{interleaved_word}
use Rattle.error_codes.proofs.code.CorrectingCode.encode_lanes.Given as goal

-- the words before this one are encoded, and the data stay
abbrev pub invariant-loop-first : goal.invariant-loop-first
invariant-loop-first l =
    let code = l.self in
    (l.first ≤ l.depth) × (length l.words ≡ length l.initial.words)
    × ((c i : ℕ) → c < l.depth → i < code.dimension
    → slice_index l.words (i * l.depth + c) ≡ slice_index l.initial.words (i * l.depth + c))
    × ((c : ℕ) → c < l.first → HasRoots (byte_times code.field) code.root code.first_root (code.word_length - code.dimension)
    (interleaved_word code.word_length l.depth l.words c))

abbrev pub decreases-loop-first : goal.decreases-loop-first
decreases-loop-first l = l.depth - l.first
