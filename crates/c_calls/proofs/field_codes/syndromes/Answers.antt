use Rattle.std.proofs.Common.{ℕ}
use Rattle.c_calls.specs.ChosenCodes.{WritesSymbolSyndromes}
use Rattle.c_calls.proofs.CodeCalls.{over-code, over-refused}
use Rattle.c_calls.proofs.field_codes.syndromes.Goals as goal

pub returns-in-Err : goal.returns-in-Err
returns-in-Err c = over-refused c.args.field c.args.word_length c.args.dimension c.args.first_root c.args.root c.in-Err.ensures.refused

pub returns-in-Ok : goal.returns-in-Ok
returns-in-Ok c =
    let code = c.in-Ok.code in
    over-code c.args.field c.args.word_length c.args.dimension c.args.first_root c.args.root
    (λ (width : ℕ) (times : ℕ → ℕ → ℕ) (n k first root : ℕ).
    WritesSymbolSyndromes width times n k first root c.args.words.now c.args.values.now c.write_syndromes.new.values c.write_syndromes.result)
    code.field.field.degree code.field.field.tail code.word_length code.dimension code.first_root code.root
    c.in-Ok.ensures.made c.write_syndromes.ensures c.write_syndromes.ensures.kept
