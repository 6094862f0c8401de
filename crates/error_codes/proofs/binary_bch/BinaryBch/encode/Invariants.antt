use Rattle.std.proofs.Common.{◌≡◌, ◌<◌, ◌≤◌, ◌+◌, ◌-◌, ℕ, length, slice_index}
use Rattle.field_base.specs.Powers.{power}
use Rattle.reed_solomon.specs.ByteFields.{byte_times}
use Rattle.error_codes.specs.Correcting.{code_value}
use Rattle.error_codes.proofs.binary_bch.BinaryBch.encode.Given as goal

-- what is left of the data so far, which are bits
abbrev pub invariant-loop-i : goal.invariant-loop-i
invariant-loop-i l =
    let code = l.self.code in
    let times = byte_times code.field in
    ((j : ℕ) → l.self.checks ≤ j → slice_index l.rest j ≡ 0) × ((j : ℕ) → slice_index l.rest j < 2)
    × ((m : ℕ) → m < code.word_length - code.dimension
    → code_value times l.self.checks (slice_index l.rest) (power 1 times code.root (1 + m))
    ≡ times (code_value times l.i (slice_index l.word) (power 1 times code.root (1 + m)))
    (power 1 times (power 1 times code.root (1 + m)) l.self.checks))

abbrev pub invariant-loop-j : goal.invariant-loop-j
invariant-loop-j l =
    (length l.word ≡ length l.initial.word)
    × ((i : ℕ) → i < l.self.code.word_length - l.self.checks → slice_index l.word i ≡ slice_index l.initial.word i)
    × ((n : ℕ) → n < l.j → slice_index l.word (l.self.code.word_length - l.self.checks + n) ≡ slice_index l.rest n)
