use Rattle.std.proofs.Common.{◌≡◌, ◌-◌, length}
use Rattle.c_calls.specs.Codes.{TellWords}
use Rattle.c_calls.proofs.field_codes.write_answers.Given as goal

-- the flags of the words before this one are written
abbrev pub invariant-loop-i : goal.invariant-loop-i
invariant-loop-i g l =
    let code = l.code in
    (length l.flags ≡ length l.initial.flags)
    × TellWords code.word_length (g.F.SymbolField.product code.field) code.root code.first_root (code.word_length - code.dimension) l.i
    l.words l.flags
