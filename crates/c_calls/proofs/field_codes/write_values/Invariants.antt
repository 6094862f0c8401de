use Rattle.std.proofs.Common.{◌≡◌, ◌+◌, ◌-◌, ◌<◌, ℕ, slice_index}
use Rattle.field_base.specs.Powers.{power}
use Rattle.error_codes.specs.Correcting.{code_value}
use Rattle.c_calls.specs.Codes.{nth_word}
use Rattle.c_calls.proofs.ManyWords.{WordsChanged}
use Rattle.c_calls.proofs.field_codes.write_values.Given as goal

-- the values of the words before this one are written
abbrev pub invariant-loop-i : goal.invariant-loop-i
invariant-loop-i g l =
    let code = l.code in
    let times = g.F.SymbolField.product code.field in
    let n = code.word_length in
    WordsChanged (n - code.dimension)
    (λ i _ new. (m : ℕ) → m < n - code.dimension
    → slice_index new m ≡ code_value times n (slice_index (nth_word n i l.words)) (power 1 times code.root (code.first_root + m)))
    l.initial.values l.values l.i
