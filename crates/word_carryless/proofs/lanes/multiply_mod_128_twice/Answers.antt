use Rattle.word_carryless.proofs.LaneReductions.{two_products}
use Rattle.word_carryless.proofs.lanes.multiply_mod_128_twice.Goals as goal

pub returns-clause-first : goal.returns-clause-first
returns-clause-first c =
    (two_products c.args.a c.args.b c.args.p c.args.q c.join_two.result.0 c.join_two.result.1 _ _ _
    c.split_two.ensures c.split_two-2.ensures c.multiply_elements.ensures c.join_two.ensures).0

pub returns-clause-second : goal.returns-clause-second
returns-clause-second c =
    (two_products c.args.a c.args.b c.args.p c.args.q c.join_two.result.0 c.join_two.result.1 _ _ _
    c.split_two.ensures c.split_two-2.ensures c.multiply_elements.ensures c.join_two.ensures).1
