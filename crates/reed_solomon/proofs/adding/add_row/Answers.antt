use Rattle.std.proofs.Common.{◌≡◌, ◌+◌, ◌*◌, ◌/◌, ◌<◌, ◌≤◌, ℕ, List, length, get_or, sym, ◌∙◌, ap, subst, arith}
use Rattle.std.specs.Prelude.{bit_xor}
use Rattle.std.proofs.lemmas.Simd.{get_or-chunk}
use Rattle.reed_solomon.specs.Tables.{nibble_sum}
use Rattle.reed_solomon.proofs.AddedShards.{AreSums, block_put, no_sums, sum_of, sum_put}
use Rattle.reed_solomon.proofs.adding.add_row.Goals as goal

pub loop-block-init : goal.loop-block-init
loop-block-init c = no_sums _ c.args.sums.now

pub loop-block-preserved : goal.loop-block-preserved
loop-block-preserved c =
    let added = λ (k : ℕ). nibble_sum c.args.entries.now c.args.start (get_or c.args.shard.now k 0) in
    let old = c.args.sums.now in
    let place = 32 * c.loop-block.block in
    let more : place + 32 ≡ 32 * (c.loop-block.block + 1) = omega arith in
    let room : place + 32 ≤ length old = omega (arith, c.loop-block-test.true) in
    subst (λ (n : ℕ). AreSums (sum_of added old) n old c.add_block.new.sums) more
    (subst (λ (l : List ℕ). AreSums (sum_of added old) (place + 32) old l) (sym c.add_block.ensures)
    (block_put added old place c.loop-block.sums c.nibble_sums.result room c.nibble_sums.ensures.long
    (λ lane below.
    c.nibble_sums.ensures.sums lane below
    ∙ ap (nibble_sum c.args.entries.now c.args.start) (get_or-chunk place 32 c.args.shard.now lane 0 below))
    c.loop-block.invariant))

pub loop-place-init : goal.loop-place-init
loop-place-init c =
    let added = λ (k : ℕ). nibble_sum c.args.entries.now c.args.start (get_or c.args.shard.now k 0) in
    let last : c.loop-block.block ≡ length c.args.sums.now / 32 = omega arith in
    subst (λ (n : ℕ). AreSums (sum_of added c.args.sums.now) (32 * n) c.args.sums.now c.loop-block.sums) last c.loop-block.invariant

pub loop-place-preserved : goal.loop-place-preserved
loop-place-preserved c =
    let added = λ (k : ℕ). nibble_sum c.args.entries.now c.args.start (get_or c.args.shard.now k 0) in
    let inside : c.loop-place.place < length c.args.sums.now = omega (arith, c.loop-place-test.true, c.loop-place.invariant.same) in
    sum_put added c.args.sums.now c.loop-place.place _ c.loop-place.sums inside
    (ap (bit_xor (get_or c.loop-place.sums c.loop-place.place 0)) c.byte_product.ensures) c.loop-place.invariant

pub returns-clause-added : goal.returns-clause-added
returns-clause-added c = λ column inside.
    c.loop-place.invariant.done column (omega (arith, inside, c.loop-place.invariant.same, c.loop-place-test.false))
