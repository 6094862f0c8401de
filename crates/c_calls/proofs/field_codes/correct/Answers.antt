use Rattle.std.proofs.Common.{ℕ, length}
use Rattle.c_calls.specs.ChosenCodes.{CorrectsSymbols}
use Rattle.c_calls.proofs.CodeCalls.{over-code, over-refused}
use Rattle.c_calls.proofs.field_codes.correct.Goals as goal

pub returns-in-Err : goal.returns-in-Err
returns-in-Err c = over-refused c.args.field c.args.word_length c.args.dimension c.args.first_root c.args.root c.in-Err.ensures.refused

pub returns-in-Ok : goal.returns-in-Ok
returns-in-Ok c =
    let code = c.in-Ok.code in
    over-code c.args.field c.args.word_length c.args.dimension c.args.first_root c.args.root
    (λ (width : ℕ) (times : ℕ → ℕ → ℕ) (n k first root : ℕ).
    CorrectsSymbols width times n k first root (length c.args.space.now) (length c.args.marks.now) (length c.args.places.now) c.args.erasures.now c.args.words.now
    c.args.corrected.now c.correct_words.new.words c.correct_words.new.corrected c.correct_words.result)
    code.field.field.degree code.field.field.tail code.word_length code.dimension code.first_root code.root
    c.in-Ok.ensures.made c.correct_words.ensures c.correct_words.ensures.kept
