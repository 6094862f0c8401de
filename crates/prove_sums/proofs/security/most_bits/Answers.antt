use Rattle.std.proofs.Common.{◌≡◌, ℕ, subst, arith}
use Rattle.prove_sums.specs.Bits.{AreMostBits}
use Rattle.prove_sums.proofs.security.most_bits.Goals as goal

pub returns-else-queries-eq7 : goal.returns-else-queries-eq7
returns-else-queries-eq7 c =
    let eight : 8 ≡ c.args.queries = omega (arith, c.requires.some_queries, c.requires.few_queries, c.if-queries-eq7.false) in
    subst (λ (m : ℕ). AreMostBits m c.args.rounds c.bits_of_256.result) eight c.bits_of_256.ensures
