use Rattle.std.proofs.Common.{◌≡◌, ◌-◌, length, slice_index}
use Rattle.c_calls.specs.Codes.{IsCorrectedTo, IsMeantByIn, nth_word}
use Rattle.c_calls.proofs.ManyWords.{WordsChanged}
use Rattle.c_calls.proofs.field_codes.write_corrected.Given as goal

-- the words before this one are corrected
abbrev pub invariant-loop-i : goal.invariant-loop-i
invariant-loop-i g l =
    let code = l.code in
    let n = code.word_length in
    (length l.corrected ≡ length l.initial.corrected)
    × (length l.space ≡ length l.initial.space)
    × (length l.marks ≡ length l.initial.marks)
    × (length l.places ≡ length l.initial.places)
    × WordsChanged n
    (λ i old new.
    IsCorrectedTo (IsMeantByIn (g.F.SymbolField.width code.field) (g.F.SymbolField.product code.field) code.root code.first_root n
    (n - code.dimension) (nth_word n i l.erasures) old) n old new (slice_index l.corrected i))
    l.initial.words l.words l.i
