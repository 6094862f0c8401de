use Rattle.std.proofs.Common.{ℕ, length}
use Rattle.c_calls.specs.ChosenCodes.{EncodesSymbols}
use Rattle.c_calls.proofs.CodeCalls.{over-code, over-refused}
use Rattle.c_calls.proofs.field_codes.encode.Goals as goal

pub returns-in-Err : goal.returns-in-Err
returns-in-Err c = over-refused c.args.field c.args.word_length c.args.dimension c.args.first_root c.args.root c.in-Err.ensures.refused

pub returns-in-Ok : goal.returns-in-Ok
returns-in-Ok c =
    let code = c.in-Ok.code in
    over-code c.args.field c.args.word_length c.args.dimension c.args.first_root c.args.root
    (λ (width : ℕ) (times : ℕ → ℕ → ℕ) (n k first root : ℕ).
    EncodesSymbols width times n k first root (length c.args.space.now) c.args.words.now c.encode_words.new.words c.encode_words.result)
    code.field.field.degree code.field.field.tail code.word_length code.dimension code.first_root code.root
    c.in-Ok.ensures.made c.encode_words.ensures c.encode_words.ensures.kept
