use Rattle.c_calls.proofs.LowNumbers.{low-product}
use Rattle.c_calls.proofs.low_bits.LowBitsScalars.multiply.Goals as goal

pub returns : goal.returns
returns g c =
    let field = g.S.ScalarWords.field c.args.self.field in
    low-product field.number field.width field.times (g.met.S.ScalarWords.field_law c.args.self.field).ring c.args.x c.args.y c.multiply.result
    c.multiply.ensures
