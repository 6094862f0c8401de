use Rattle.std.proofs.Common.{arith}
use Rattle.any_field.proofs.ContextFields.{product-lt}
use Rattle.error_codes.proofs.FieldSymbols.{element-fits}
use Rattle.error_codes.proofs.symbols.WordFieldSymbolField.multiply.Goals as goal

pub overflow_cast-result : goal.overflow_cast-result
overflow_cast-result c =
    let field = c.args.self.field in
    let below = element-fits field.degree c.multiply.result c.args.self.narrow
    (product-lt field.degree field.tail field.ratio c.args.x c.args.y c.multiply.result field.context c.multiply.ensures) in
    omega (arith, below)
