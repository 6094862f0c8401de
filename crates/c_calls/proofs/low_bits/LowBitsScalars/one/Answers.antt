use Rattle.std.proofs.lemmas.Nat.{pow_below}
use Rattle.c_calls.proofs.LowNumbers.{low-is}
use Rattle.c_calls.proofs.low_bits.LowBitsScalars.one.Goals as goal

pub returns : goal.returns
returns g c =
    let field = g.S.ScalarWords.field c.args.self.field in
    low-is field.number field.width c.one.result 1 c.one.ensures (pow_below 0 field.width (g.met.S.ScalarWords.wide_law c.args.self.field))
