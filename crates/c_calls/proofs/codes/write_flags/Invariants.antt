use Rattle.std.proofs.Common.{◌≡◌, ◌-◌, length}
use Rattle.reed_solomon.specs.ByteFields.{byte_times}
use Rattle.c_calls.specs.Codes.{TellWords}
use Rattle.c_calls.proofs.codes.write_flags.Given as goal

-- the flags of the words before this one are written
abbrev pub invariant-loop-i : goal.invariant-loop-i
invariant-loop-i l =
    let code = l.code in
    (length l.flags ≡ length l.initial.flags)
    × TellWords code.word_length (byte_times code.field) code.root code.first_root (code.word_length - code.dimension) l.i l.words l.flags
