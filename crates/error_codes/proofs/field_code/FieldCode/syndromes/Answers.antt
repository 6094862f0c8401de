use Rattle.std.proofs.Common.{length, slice_index, ◌∙◌, ap, arith}
use Rattle.error_codes.specs.Correcting.{code_value}
use Rattle.error_codes.proofs.field_code.FieldCode.syndromes.Goals as goal

pub returns-clause-values : goal.returns-clause-values
returns-clause-values g c = λ m below.
    let times = g.F.SymbolField.product c.args.self.now.field in
    let word = c.args.word.now in
    c.evaluate.ensures.values m (omega (arith, below, c.write_roots.ensures.long, c.requires.room))
    ∙ ap (code_value times (length word) (slice_index word)) (c.write_roots.ensures.roots m (omega (arith, below, c.requires.room)))
