use Rattle.any_field.specs.Contexts.{field_product}
use Rattle.error_codes.proofs.FieldSymbols.{inverse-found}
use Rattle.error_codes.proofs.symbols.WordFieldSymbolField.invert.Goals as goal

pub returns : goal.returns
returns c = λ fits nonzero.
    let field = c.args.self.field in
    inverse-found (field_product field.degree field.tail) field.degree c.args.x c.invert.result fits nonzero
    c.invert.ensures.inverse
