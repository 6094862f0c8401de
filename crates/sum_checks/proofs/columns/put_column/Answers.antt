use Rattle.std.proofs.Common.{◌<◌, ℕ, length, map, sym, ◌∙◌, arith}
use Rattle.std.specs.List.{range_with_len}
use Rattle.sum_checks.specs.Terms.{row_entry}
use Rattle.field_base.proofs.Written.{written_step}
use Rattle.sum_checks.proofs.ColumnSteps.{entry-within, listed-at}
use Rattle.sum_checks.proofs.columns.put_column.Goals as goal

pub loop-row-preserved : goal.loop-row-preserved
loop-row-preserved g c =
    let repr = g.F.Represented.repr in
    let entry = λ (i : ℕ). row_entry c.args.count (map repr c.args.rows.now) i c.args.place in
    let size = length c.args.column.now in
    let row = c.loop-row.row in
    let below : row < size = omega arith in
    written_step repr (map entry (range_with_len 0 size)) c.args.column.now c.loop-row.column row c.entry_of.result (omega arith)
    (c.entry_of.ensures ∙ sym (listed-at entry size row below))
    c.loop-row.invariant

pub returns : goal.returns
returns g c i below =
    c.loop-row.invariant.done i (omega (arith, below))
    ∙ listed-at (λ (k : ℕ). row_entry c.args.count (map g.F.Represented.repr c.args.rows.now) k c.args.place) (length c.args.column.now) i below

pub entry_of-requires : goal.entry_of-requires
entry_of-requires g c =
    entry-within c.loop-row.row c.args.count c.args.place (length c.args.column.now) (length c.args.rows.now) c.requires.size c.loop-row-test.true
    c.requires.inside
