use Rattle.std.proofs.Common.{◌-◌}
use Rattle.error_codes.specs.FieldCodes.{AreSymbols}
use Rattle.c_calls.specs.Codes.{IsEncodedWord}
use Rattle.c_calls.proofs.ManyWords.{WordsChanged}
use Rattle.c_calls.proofs.field_codes.write_words.Given as goal

-- the words before this one are encoded
abbrev pub invariant-loop-i : goal.invariant-loop-i
invariant-loop-i g l =
    let code = l.code in
    let n = code.word_length in
    WordsChanged n
    (λ _ old new.
    IsEncodedWord (g.F.SymbolField.product code.field) code.root code.first_root (n - code.dimension) code.dimension old new
    × AreSymbols (g.F.SymbolField.width code.field) n new)
    l.initial.words l.words l.i
