use Rattle.std.proofs.Common.{◌≡◌, ℕ, ◌+◌, ◌-◌, ◌*◌, arith, subst}
use Rattle.std.specs.Prelude.{slice_index}
use Rattle.std.specs.Int.{bit_at}
use Rattle.bits_packed.specs.BitMatrices.{IsBlockWritten, bit_entry, entry_within}
use Rattle.bits_packed.proofs.BitTransposes.{block_more, block_start, turned_bit}
use Rattle.bits_packed.proofs.transposes.write_column.Goals as goal

pub loop-block-init : goal.loop-block-init
loop-block-init c =
    let none : 0 ≡ 64 * 0 = omega arith in
    let wanted : ℕ → ℕ → ℕ = λ i b. entry_within c.args.from.rows (bit_entry c.args.from.words c.args.source.now) (64 * c.args.word + b) i in
    subst (λ (n : ℕ). IsBlockWritten c.args.to.rows c.args.to.words 0 n c.args.word wanted c.args.target.now c.args.target.now) none
    (block_start c.args.to.rows c.args.to.words 0 c.args.word wanted c.args.target.now)

pub loop-block-preserved : goal.loop-block-preserved
loop-block-preserved c =
    let word = c.args.word in
    let block = c.loop-block.block in
    let columns = c.transposed-columns.result in
    let next : 64 * block + 64 ≡ 64 * (block + 1) = omega arith in
    let wanted : ℕ → ℕ → ℕ = λ i b. entry_within c.args.from.rows (bit_entry c.args.from.words c.args.source.now) (64 * c.args.word + b) i in
    subst (λ (n : ℕ). IsBlockWritten c.args.to.rows c.args.to.words 0 n word wanted c.args.target.now c.put_block.new.target) next
    (block_more c.args.to.rows c.args.to.words 0 (64 * block) (64 * block) 64 word wanted
    (λ i b. bit_at (slice_index columns (i - 64 * block)) b) c.args.target.now c.loop-block.target c.put_block.new.target (omega arith)
    c.requires.word
    (λ i b past below inside short.
    turned_bit c.args.from.rows c.args.from.words word block i b c.args.source.now c.block_of-rows.result columns c.block_of-rows.ensures
    c.transposed-columns.ensures past below short)
    c.loop-block.invariant c.put_block.ensures)

pub returns : goal.returns
returns c =
    let all : c.loop-block.block ≡ c.args.from.words = omega arith in
    subst (λ (n : ℕ). IsBlockWritten c.args.to.rows c.args.to.words 0 (64 * n) c.args.word
    (λ i b. entry_within c.args.from.rows (bit_entry c.args.from.words c.args.source.now) (64 * c.args.word + b) i) c.args.target.now
    c.loop-block.target) all c.loop-block.invariant
