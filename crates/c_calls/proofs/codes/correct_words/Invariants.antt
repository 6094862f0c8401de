use Rattle.std.proofs.Common.{◌≡◌, ◌-◌, length, slice_index}
use Rattle.reed_solomon.specs.ByteFields.{byte_times}
use Rattle.c_calls.specs.Codes.{IsCorrectedWord, nth_word}
use Rattle.c_calls.proofs.ManyWords.{WordsChanged}
use Rattle.c_calls.proofs.codes.correct_words.Given as goal

-- the words before this one are corrected
abbrev pub invariant-loop-i : goal.invariant-loop-i
invariant-loop-i l =
    let code = l.code in
    (length l.corrected ≡ length l.initial.corrected)
    × WordsChanged code.word_length
    (λ i old new.
    IsCorrectedWord (byte_times code.field) code.root code.first_root code.word_length (code.word_length - code.dimension)
    (nth_word code.word_length i l.erasures) old new (slice_index l.corrected i))
    l.initial.words l.words l.i
