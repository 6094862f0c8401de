use Rattle.std.proofs.Common.{◌∙◌}
use Rattle.error_codes.proofs.FieldSymbols.{low-product}
use Rattle.error_codes.proofs.symbols.ByteFieldSymbolField.multiply.Goals as goal

pub returns : goal.returns
returns c = c.multiply.ensures ∙ low-product c.args.self c.args.x c.args.y
