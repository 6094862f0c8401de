use Rattle.c_calls.specs.ChosenCodes.{AreDataSymbols}
use Rattle.c_calls.proofs.field_codes.data_are_elements.Given as goal

-- the data of the words before this one are elements
abbrev pub invariant-loop-i : goal.invariant-loop-i
invariant-loop-i g l = AreDataSymbols (g.F.SymbolField.width l.code.field) l.code.word_length l.code.dimension l.i l.words
