use Rattle.word_carryless.proofs.LaneReductions.{two_whole_products}
use Rattle.word_carryless.proofs.lanes.multiply_128_twice.Goals as goal

pub returns-clause-first : goal.returns-clause-first
returns-clause-first c =
    (two_whole_products c.args.a c.args.b c.args.p c.args.q c.join_two-first_low.result.0 c.join_two-first_low.result.1 c.join_two-first_high.result.0
    c.join_two-first_high.result.1 _ _ _ _ c.split_two.ensures c.split_two-2.ensures c.multiply_double_words.ensures
    c.join_two-first_low.ensures c.join_two-first_high.ensures).0

pub returns-clause-second : goal.returns-clause-second
returns-clause-second c =
    (two_whole_products c.args.a c.args.b c.args.p c.args.q c.join_two-first_low.result.0 c.join_two-first_low.result.1 c.join_two-first_high.result.0
    c.join_two-first_high.result.1 _ _ _ _ c.split_two.ensures c.split_two-2.ensures c.multiply_double_words.ensures
    c.join_two-first_low.ensures c.join_two-first_high.ensures).1
