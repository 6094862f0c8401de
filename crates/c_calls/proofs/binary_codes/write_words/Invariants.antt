use Rattle.std.proofs.Common.{◌-◌}
use Rattle.error_codes.specs.BinaryBch.{AreBinary}
use Rattle.reed_solomon.specs.ByteFields.{byte_times}
use Rattle.c_calls.specs.Codes.{IsEncodedWord}
use Rattle.c_calls.proofs.ManyWords.{WordsChanged}
use Rattle.c_calls.proofs.binary_codes.write_words.Given as goal

-- the words before this one are encoded
abbrev pub invariant-loop-i : goal.invariant-loop-i
invariant-loop-i l =
    let code = l.code.code in
    let n = code.word_length in
    WordsChanged n
    (λ _ old new. IsEncodedWord (byte_times code.field) code.root 1 (n - code.dimension) (n - l.code.checks) old new × AreBinary n new)
    l.initial.words l.words l.i
