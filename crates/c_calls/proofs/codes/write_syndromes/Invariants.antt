use Rattle.std.proofs.Common.{◌≡◌, ◌+◌, ◌-◌, ◌<◌, ℕ, slice_index}
use Rattle.field_base.specs.Powers.{power}
use Rattle.reed_solomon.specs.ByteFields.{byte_times}
use Rattle.error_codes.specs.Correcting.{code_value}
use Rattle.c_calls.specs.Codes.{nth_word}
use Rattle.c_calls.proofs.ManyWords.{WordsChanged}
use Rattle.c_calls.proofs.codes.write_syndromes.Given as goal

-- the values of the words before this one are written
abbrev pub invariant-loop-i : goal.invariant-loop-i
invariant-loop-i l =
    let code = l.code in
    WordsChanged (code.word_length - code.dimension)
    (λ i _ new. (m : ℕ) → m < code.word_length - code.dimension
    → slice_index new m ≡ code_value (byte_times code.field) code.word_length (slice_index (nth_word code.word_length i l.words))
    (power 1 (byte_times code.field) code.root (code.first_root + m)))
    l.initial.values l.values l.i
