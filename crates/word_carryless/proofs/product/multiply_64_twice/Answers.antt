use Rattle.std.proofs.Common.{arith}
use Rattle.word_carryless.proofs.KaratsubaLemmas.{carryless_64}
use Rattle.word_carryless.proofs.product.multiply_64_twice.Goals as goal

pub returns-clause-first : goal.returns-clause-first
returns-clause-first c =
    carryless_64 c.args.a c.args.p c.split_64-a0.result.0 c.split_64-a0.result.1 c.split_64-p0.result.0 c.split_64-p0.result.1
    c.multiply_32_twice-first_low.result.0 c.multiply_32_twice-first_low.result.1
    c.multiply_32_twice-first_both.result.0 c.join_halves.result (omega arith) (omega arith)
    c.split_64-a0.ensures c.split_64-p0.ensures c.multiply_32_twice-first_low.ensures.first
    c.multiply_32_twice-first_low.ensures.second c.multiply_32_twice-first_both.ensures.first c.join_halves.ensures

pub returns-clause-second : goal.returns-clause-second
returns-clause-second c =
    carryless_64 c.args.b c.args.q c.split_64-b0.result.0 c.split_64-b0.result.1 c.split_64-q0.result.0 c.split_64-q0.result.1
    c.multiply_32_twice-second_low.result.0 c.multiply_32_twice-second_low.result.1
    c.multiply_32_twice-first_both.result.1 c.join_halves-2.result (omega arith) (omega arith)
    c.split_64-b0.ensures c.split_64-q0.ensures c.multiply_32_twice-second_low.ensures.first
    c.multiply_32_twice-second_low.ensures.second c.multiply_32_twice-first_both.ensures.second
    c.join_halves-2.ensures
