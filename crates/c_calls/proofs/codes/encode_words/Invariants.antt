use Rattle.std.proofs.Common.{◌-◌}
use Rattle.reed_solomon.specs.ByteFields.{byte_times}
use Rattle.c_calls.specs.Codes.{IsEncodedWord}
use Rattle.c_calls.proofs.ManyWords.{WordsChanged}
use Rattle.c_calls.proofs.codes.encode_words.Given as goal

-- the words before this one are encoded
abbrev pub invariant-loop-i : goal.invariant-loop-i
invariant-loop-i l =
    let code = l.code in
    WordsChanged code.word_length
    (λ _ old new.
    IsEncodedWord (byte_times code.field) code.root code.first_root (code.word_length - code.dimension) code.dimension old new)
    l.initial.words l.words l.i
