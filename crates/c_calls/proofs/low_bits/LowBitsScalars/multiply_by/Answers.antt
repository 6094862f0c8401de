use Rattle.std.proofs.Common.{ℕ, map, ◌∙◌, ap}
use Rattle.c_calls.specs.Low.{low_number}
use Rattle.c_calls.proofs.LowNumbers.{low_again, low_multiples, truncated-lt}
use Rattle.c_calls.proofs.low_bits.LowBitsScalars.multiply_by.Goals as goal

pub multiply_by-requires : goal.multiply_by-requires
multiply_by-requires g c =
    let field = g.S.ScalarWords.field c.args.self.field in
    truncated-lt field.number field.width c.args.scalar c.truncated.ensures

pub returns : goal.returns
returns g c =
    let field = g.S.ScalarWords.field c.args.self.field in
    low_multiples field (g.met.S.ScalarWords.field_law c.args.self.field).ring c.truncated.result c.args.values.now c.multiply_by.new.words
    c.multiply_by.ensures.long c.multiply_by.ensures.products
    ∙ ap (λ (s : ℕ). map (λ x. field.times s x) (map (low_number field.number field.width) c.args.values.now))
    (low_again field.number field.width c.args.scalar c.truncated.result c.truncated.ensures)
