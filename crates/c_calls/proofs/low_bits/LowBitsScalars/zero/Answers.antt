use Rattle.std.proofs.lemmas.Nat.{pow_pos}
use Rattle.c_calls.proofs.LowNumbers.{low-is}
use Rattle.c_calls.proofs.low_bits.LowBitsScalars.zero.Goals as goal

pub returns : goal.returns
returns g c =
    let field = g.S.ScalarWords.field c.args.self.field in
    low-is field.number field.width c.zero.result 0 c.zero.ensures (pow_pos field.width)
