use Rattle.std.proofs.Common.{◌≡◌, ◌-◌, length}
use Rattle.reed_solomon.specs.ByteFields.{byte_times}
use Rattle.c_calls.specs.BinaryCodes.{TellBinaryWords}
use Rattle.c_calls.proofs.binary_codes.write_flags.Given as goal

-- the flags of the words before this one are written
abbrev pub invariant-loop-i : goal.invariant-loop-i
invariant-loop-i l =
    let code = l.code.code in
    (length l.flags ≡ length l.initial.flags)
    × TellBinaryWords (byte_times code.field) code.root code.word_length (code.word_length - code.dimension) l.i l.words l.flags
