use Rattle.std.proofs.Common.{◌*◌, ◌%◌, ◌^◌, arith}
use Rattle.field_base.specs.Carryless.{carryless}
use Rattle.word_carryless.specs.Masked.{IsInClass}
use Rattle.word_tables.proofs.BlockLemmas.{block_done, place_done}
use Rattle.word_carryless.proofs.MaskedLanes.{block_keeps, place_keeps}
use Rattle.word_carryless.proofs.masked.masked_products.Goals as goal

pub masked_lanes-requires-clause-xs_in_class : goal.masked_lanes-requires-clause-xs_in_class
masked_lanes-requires-clause-xs_in_class c =
    block_keeps (IsInClass c.args.i) (λ x. carryless x c.args.y % 2 ^ 64) 4 (4 * c.fours.four) c.args.xs.now c.fours.xs
    c.requires.xs_in_class (omega arith) (omega arith) c.fours.invariant

pub fours-preserved : goal.fours-preserved
fours-preserved c =
    block_done (λ x. carryless x c.args.y % 2 ^ 64) 4 c.fours.four c.args.xs.now c.fours.xs c.masked_lanes.result (omega arith)
    c.fours.invariant c.masked_lanes.ensures

pub masked_lanes-requires-in-twos-clause-xs_in_class : goal.masked_lanes-requires-in-twos-clause-xs_in_class
masked_lanes-requires-in-twos-clause-xs_in_class c =
    block_keeps (IsInClass c.args.i) (λ x. carryless x c.args.y % 2 ^ 64) 2 (2 * c.twos.two) c.args.xs.now c.twos.xs
    c.requires.xs_in_class (omega arith) (omega arith) c.twos.invariant

pub twos-preserved : goal.twos-preserved
twos-preserved c =
    block_done (λ x. carryless x c.args.y % 2 ^ 64) 2 c.twos.two c.args.xs.now c.twos.xs c.masked_lanes-in-twos.result (omega arith)
    c.twos.invariant c.masked_lanes-in-twos.ensures

pub masked_product-requires-clause-x_in_class : goal.masked_product-requires-clause-x_in_class
masked_product-requires-clause-x_in_class c =
    place_keeps (IsInClass c.args.i) (λ x. carryless x c.args.y % 2 ^ 64) c.rest.place c.args.xs.now c.rest.xs
    c.requires.xs_in_class (omega arith) c.rest.invariant

pub rest-preserved : goal.rest-preserved
rest-preserved c =
    place_done (λ x. carryless x c.args.y % 2 ^ 64) c.args.xs.now c.rest.xs c.rest.place c.masked_product.result
    (omega arith) (omega arith) c.rest.invariant c.masked_product.ensures
