use Rattle.std.proofs.Common.{◌<◌, ℕ, length, map, sym, ◌∙◌, ap₂, arith}
use Rattle.std.specs.Prelude.{slice_index}
use Rattle.std.specs.List.{range_with_len}
use Rattle.sum_checks.specs.Terms.{row_entry}
use Rattle.field_base.proofs.Written.{written_step, written-read}
use Rattle.sum_checks.proofs.ColumnSteps.{entry-within, listed-at}
use Rattle.sum_checks.proofs.columns.multiply_column.Goals as goal

pub loop-row-preserved : goal.loop-row-preserved
loop-row-preserved g c =
    let field = g.F.Represented in
    let old = c.args.column.now in
    let size = length old in
    let product = λ (i : ℕ). field.product (slice_index (map field.repr old) i) (row_entry c.args.count (map field.repr c.args.rows.now) i c.args.place) in
    let wanted = map product (range_with_len 0 size) in
    let row = c.loop-row.row in
    let x = c.index-column-row.result in
    let below : row < size = omega arith in
    written_step field.repr wanted old c.loop-row.column row c.mul.result (omega arith)
    (g.met.F.Represented.mul_law x c.entry_of.result c.mul.result c.mul.ensures
    ∙ ap₂ field.product
    (written-read field.repr wanted old c.loop-row.column row x (omega arith) c.index-column-row.is c.loop-row.invariant)
    c.entry_of.ensures
    ∙ sym (listed-at product size row below))
    c.loop-row.invariant

pub returns : goal.returns
returns g c i below =
    let field = g.F.Represented in
    let product = λ (k : ℕ). field.product (slice_index (map field.repr c.args.column.now) k) (row_entry c.args.count (map field.repr c.args.rows.now) k c.args.place) in
    let done = c.loop-row.invariant.done i (omega (arith, below)) in
    done ∙ listed-at product (length c.args.column.now) i below

pub entry_of-requires : goal.entry_of-requires
entry_of-requires g c =
    entry-within c.loop-row.row c.args.count c.args.place (length c.args.column.now) (length c.args.rows.now) c.requires.size c.loop-row-test.true
    c.requires.inside
