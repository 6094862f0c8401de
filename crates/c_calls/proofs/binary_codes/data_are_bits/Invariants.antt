use Rattle.std.proofs.Common.{◌-◌}
use Rattle.c_calls.specs.BinaryCodes.{AreDataBits}
use Rattle.c_calls.proofs.binary_codes.data_are_bits.Given as goal

-- the data of the words before this one are bits
abbrev pub invariant-loop-i : goal.invariant-loop-i
invariant-loop-i l = AreDataBits l.code.code.word_length (l.code.code.word_length - l.code.checks) l.i l.words
