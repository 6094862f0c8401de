use Rattle.std.proofs.Common.{◌≡◌, ℕ, ◌*◌, ◌/◌, ◌%◌, ◌^◌, ◌<◌, ◌∙◌, ap, refl, arith}
use Rattle.std.specs.Prelude.{bit_and, bit_xor, slice_index}
use Rattle.std.specs.Int.{bit_at}
use Rattle.field_base.specs.Basis.{sum_below}
use Rattle.word_tables.specs.Columns.{column}
use Rattle.word_tables.proofs.ColumnLemmas.{row_enters}
use Rattle.word_tables.proofs.matrix.column_of.Goals as goal

pub loop-row-init : goal.loop-row-init
unfolding sum_below
loop-row-init c = refl

pub loop-row-preserved : goal.loop-row-preserved
loop-row-preserved c =
    let rows = c.args.rows.now in
    let k = c.args.k in
    let row = c.loop-row.row in
    let within : row < 8 = omega (arith, c.loop-row-test.true) in
    ap (λ (sum : ℕ). bit_xor sum (bit_and (slice_index rows row / 2 ^ k) 1 * 2 ^ row % 256)) c.loop-row.invariant
    ∙ row_enters rows k row (slice_index rows row) within refl

pub returns : goal.returns
unfolding column
returns c =
    let all : c.loop-row.row ≡ 8 = omega (arith, c.loop-row-test.false, c.loop-row.auto.row-end) in
    c.loop-row.invariant ∙ ap (sum_below (λ i. bit_at (slice_index c.args.rows.now i) c.args.k * 2 ^ i)) all
