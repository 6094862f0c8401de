use Rattle.std.proofs.Common.{ℕ, map, subst}
use Rattle.field_slices.specs.Matrices.{AreScaledSums}
use Rattle.c_calls.specs.Low.{low_number}
use Rattle.c_calls.proofs.LowNumbers.{low_again, low_sums, truncated-lt}
use Rattle.c_calls.proofs.low_bits.LowBitsScalars.add_scaled.Goals as goal

pub add_scaled-requires-clause-scalar : goal.add_scaled-requires-clause-scalar
add_scaled-requires-clause-scalar g c =
    let field = g.S.ScalarWords.field c.args.self.field in
    truncated-lt field.number field.width c.args.scalar c.truncated.ensures

pub returns-clause-sums : goal.returns-clause-sums
returns-clause-sums g c =
    let field = g.S.ScalarWords.field c.args.self.field in
    let low = low_number field.number field.width in
    let old = c.args.sums.now in
    let new = c.add_scaled.new.sums in
    subst (λ (s : ℕ). AreScaledSums field.times s (map low c.args.values.now) (map low old) (map low new))
    (low_again field.number field.width c.args.scalar c.truncated.result c.truncated.ensures)
    (low_sums field (g.met.S.ScalarWords.field_law c.args.self.field).ring c.truncated.result c.args.values.now old new c.requires
    c.add_scaled.ensures.long c.add_scaled.ensures.sums)
