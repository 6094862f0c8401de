use Rattle.std.proofs.Common.{ℕ, ◌-◌, ◌*◌, ◌<◌, ◌≤◌, ◌∙◌, List, get_or, replicate, ap, arith}
use Rattle.std.proofs.lemmas.Simd.{get_or-chunk}
use Rattle.ghash_slices.specs.LowStages.{ghash_product}
use Rattle.ghash_slices.proofs.BlockLemmas.{rows_of, values_of}
use Rattle.ghash_slices.proofs.HornerProducts.{all_taken, byte_taken, nothing_taken, products_of_high}
use Rattle.ghash_slices.proofs.TwoBlocks.{of_lanes, zero_rows}
use Rattle.ghash_slices.proofs.multiples.Multiples.products.Goals as goal

pub loop-turn-init : goal.loop-turn-init
loop-turn-init c values held =
    nothing_taken 16 c.args.self.now.scalar values held.fits (replicate 16 (replicate 16 0)) (λ k e below small. zero_rows 16 16 k e)

pub loop-turn-preserved : goal.loop-turn-preserved
loop-turn-preserved c values held =
    let turn = c.loop-turn.turn in
    let few : turn < 16 = omega arith in
    let rows = c.transposed-rows.result in
    let scalar = c.args.self.now.scalar in
    let held_rows = rows_of c.args.bytes.now rows values c.transposed-rows.ensures held in
    byte_taken 16 scalar values held.fits turn c.lanes_at.result c.step.new.sums few
    (λ e small. ap (λ (l : List ℕ). get_or l e 0) c.lanes_at.ensures.lanes ∙ get_or-chunk (16 * (15 - turn)) 16 rows e 0 small
    ∙ held_rows.each (15 - turn) e (omega arith) small)
    (of_lanes 16 c.loop-turn.sums c.step.new.sums _ _ (c.step.ensures (products_of_high scalar values (16 - turn)))
    (c.loop-turn.invariant values held))

pub returns : goal.returns
returns c values held =
    let turn = c.loop-turn.turn in
    let all : 16 ≤ turn = omega arith in
    let scalar = c.args.self.now.scalar in
    values_of c.bytes_of_rows.result c.transposed.result (λ e. ghash_product scalar (values e)) c.transposed.ensures
    (c.bytes_of_rows.ensures (λ e. ghash_product scalar (values e))
    (all_taken 16 scalar values held.fits turn c.loop-turn.sums all (c.loop-turn.invariant values held)))
