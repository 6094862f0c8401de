use Rattle.std.proofs.Common.{◌≡◌, ◌+◌, ◌*◌, ◌-◌, ℕ, length, refl, subst, arith}
use Rattle.std.specs.Simd.Lanes.{put_chunk}
use Rattle.word_tables.specs.Nibbles.{entry_sum}
use Rattle.many_words.proofs.ByteSums.{AreAdded, block_added, none_added}
use Rattle.many_words.proofs.scaled_bytes.add_in_blocks.Goals as goal

-- the last block is added
last : (c : goal.After-loop-block)
    → AreAdded (entry_sum c.args.low c.args.high) (length c.args.sums.now - 32 + 32) c.args.bytes.now c.args.sums.now
    (put_chunk (length c.args.sums.now - 32) c.loop-block.sums c.sums_at-end.result)
last c =
    let room = c.requires.block in
    let over = c.loop-block-test.false in
    let few = c.loop-block.auto.block-end in
    let place = length c.args.sums.now - 32 in
    block_added (entry_sum c.args.low c.args.high) c.args.bytes.now c.args.sums.now c.requires.same place 32 (omega arith)
    (32 * c.loop-block.block) c.args.sums.now c.loop-block.sums c.sums_at-end.result (omega (arith, room, over)) (omega (arith, room, few))
    c.loop-block.invariant refl (λ k below. refl) c.sums_at-end.ensures

pub loop-block-init : goal.loop-block-init
loop-block-init c = none_added _ _ c.args.bytes.now c.args.sums.now refl

pub loop-block-preserved : goal.loop-block-preserved
loop-block-preserved c =
    let f = entry_sum c.args.low c.args.high in
    let place = 32 * c.loop-block.block in
    let before = c.loop-block.invariant in
    let next : place + 32 ≡ 32 * (c.loop-block.block + 1) = omega arith in
    subst (λ (n : ℕ). AreAdded f n c.args.bytes.now c.args.sums.now
    (put_chunk place c.loop-block.sums c.sums_at-next.result)) next
    (block_added f c.args.bytes.now c.args.sums.now c.requires.same place 32 (omega (arith, c.loop-block-test.true)) place c.loop-block.sums
    c.loop-block.sums _ (omega arith) (omega arith) before before.long (λ k below. before.kept (place + k) (omega arith)) c.sums_at-next.ensures)

pub returns-clause-long : goal.returns-clause-long
returns-clause-long c = (last c).long

pub returns-clause-sums : goal.returns-clause-sums
returns-clause-sums c k inside =
    let room = c.requires.block in
    let long = (last c).long in
    (last c).done k (omega (arith, inside, long, room))
