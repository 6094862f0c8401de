use Rattle.std.proofs.Common.{◌≡◌, ◌-◌, length, slice_index}
use Rattle.reed_solomon.specs.ByteFields.{byte_times}
use Rattle.c_calls.specs.BinaryCodes.{IsMeantBitsBy}
use Rattle.c_calls.specs.Codes.{IsCorrectedTo, nth_word}
use Rattle.c_calls.proofs.ManyWords.{WordsChanged}
use Rattle.c_calls.proofs.binary_codes.write_corrected.Given as goal

-- the words before this one are corrected
abbrev pub invariant-loop-i : goal.invariant-loop-i
invariant-loop-i l =
    let code = l.code.code in
    let n = code.word_length in
    (length l.corrected ≡ length l.initial.corrected)
    × WordsChanged n
    (λ i old new.
    IsCorrectedTo (IsMeantBitsBy (byte_times code.field) code.root n (n - code.dimension) (nth_word n i l.erasures) old) n old new
    (slice_index l.corrected i))
    l.initial.words l.words l.i
