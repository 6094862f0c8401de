use Rattle.std.proofs.Common.{◌-◌, ◌<◌, replicate, arith}
use Rattle.ghash_slices.proofs.HornerProducts.{all_taken, byte_taken, nothing_taken, products_of_high}
use Rattle.ghash_slices.proofs.TwoBlocks.{fits_in_both, of_lanes, rows_in_both, zero_rows}
use Rattle.ghash_slices.proofs.multiples.Multiples.sums_of_two.Goals as goal

pub loop-turn-init : goal.loop-turn-init
loop-turn-init c values first second =
    nothing_taken 32 c.args.self.now.scalar values (fits_in_both c.args.first_rows.now c.args.second_rows.now values first second)
    (replicate 16 (replicate 32 0)) (λ k e below small. zero_rows 16 32 k e)

pub loop-turn-preserved : goal.loop-turn-preserved
loop-turn-preserved c values first second =
    let turn = c.loop-turn.turn in
    let few : turn < 16 = omega arith in
    let scalar = c.args.self.now.scalar in
    byte_taken 32 scalar values (fits_in_both c.args.first_rows.now c.args.second_rows.now values first second) turn c.joined-bytes.result
    c.step.new.sums few
    (rows_in_both c.args.first_rows.now c.args.second_rows.now values (15 - turn) c.lanes_at.result c.lanes_at-in-loop-turn.result c.joined-bytes.result
    (omega arith) first second c.lanes_at.ensures.lanes c.lanes_at.ensures.count c.lanes_at-in-loop-turn.ensures.lanes c.joined-bytes.ensures)
    (of_lanes 32 c.loop-turn.sums c.step.new.sums _ _ (c.step.ensures (products_of_high scalar values (16 - turn)))
    (c.loop-turn.invariant values first second))

pub returns : goal.returns
returns c values first second =
    all_taken 32 c.args.self.now.scalar values (fits_in_both c.args.first_rows.now c.args.second_rows.now values first second) c.loop-turn.turn
    c.loop-turn.sums (omega arith) (c.loop-turn.invariant values first second)
