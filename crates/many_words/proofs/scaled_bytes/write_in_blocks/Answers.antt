use Rattle.std.proofs.Common.{◌≡◌, ◌+◌, ◌*◌, ◌-◌, ◌/◌, ℕ, length, refl, subst, arith}
use Rattle.std.specs.Simd.Lanes.{put_chunk}
use Rattle.word_tables.specs.Nibbles.{entry_sum}
use Rattle.many_words.proofs.WrittenBytes.{AreWritten, block_written, none_written}
use Rattle.many_words.proofs.scaled_bytes.write_in_blocks.Goals as goal

-- the last block is written
last : (c : goal.After-loop-block)
    → AreWritten (entry_sum c.args.low c.args.high) (length c.args.bytes.now - 32 + 32) c.args.bytes.now c.args.products.now
    (put_chunk (length c.args.bytes.now - 32) c.loop-block.products c.entries_at-end.result)
last c =
    let room = c.requires.block in
    let same = c.requires.same in
    let over = c.loop-block-test.false in
    let place = length c.args.bytes.now - 32 in
    block_written (entry_sum c.args.low c.args.high) c.args.bytes.now c.args.products.now same place 32 (omega (arith, room, same))
    (32 * c.loop-block.block) c.loop-block.products c.entries_at-end.result (omega (arith, room, same, over))
    c.loop-block.invariant c.entries_at-end.ensures

pub loop-block-init : goal.loop-block-init
loop-block-init c = none_written _ _ c.args.bytes.now c.args.products.now refl

pub loop-block-preserved : goal.loop-block-preserved
loop-block-preserved c =
    let f = entry_sum c.args.low c.args.high in
    let place = 32 * c.loop-block.block in
    let same = c.requires.same in
    let next : place + 32 ≡ 32 * (c.loop-block.block + 1) = omega arith in
    subst (λ (n : ℕ). AreWritten f n c.args.bytes.now c.args.products.now
    (put_chunk place c.loop-block.products c.entries_at-next.result)) next
    (block_written f c.args.bytes.now c.args.products.now same place 32 (omega (arith, same, c.loop-block-test.true)) place
    c.loop-block.products _ (omega arith) c.loop-block.invariant c.entries_at-next.ensures)

pub returns-clause-long : goal.returns-clause-long
returns-clause-long c = (last c).long

pub returns-clause-products : goal.returns-clause-products
returns-clause-products c k inside =
    let room = c.requires.block in
    let same = c.requires.same in
    let long = (last c).long in
    (last c).done k (omega (arith, inside, long, room, same))
