use Rattle.c_calls.proofs.LowNumbers.{low-sum}
use Rattle.c_calls.proofs.low_bits.LowBitsScalars.add.Goals as goal

pub returns : goal.returns
returns g c =
    let field = g.S.ScalarWords.field c.args.self.field in
    low-sum field.number field.width c.args.x c.args.y c.add.result c.add.ensures
