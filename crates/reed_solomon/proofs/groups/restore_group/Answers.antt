use Rattle.std.proofs.Common.{◌≡◌, ◌+◌, ◌*◌, ◌≤◌, ℕ, List, length, take, slice_index, ◌∙◌, ap, arith}
use Rattle.std.proofs.lemmas.List.{get_or-take, length-take-le, take_rest}
use Rattle.reed_solomon.specs.Tables.{row_sum}
use Rattle.reed_solomon.proofs.StripRows.{strip_written}
use Rattle.reed_solomon.proofs.groups.restore_group.Goals as goal

pub loop-column-preserved : goal.loop-column-preserved
loop-column-preserved c =
    let rows = length c.args.targets.now in
    let spots = c.starts_from-rows.result in
    let width = c.strip_width-width.result in
    let fits : c.loop-column.column + width ≤ c.args.size = omega (arith, c.strip_width-width.ensures, c.loop-column-test.true) in
    let listed : length (take rows spots) ≡ rows = length-take-le rows spots (omega (arith, c.requires.rows, c.starts_from-rows.ensures.long)) in
    let step : (row : ℕ) → (0 + row) * 2048 ≡ 2048 * row = λ row. omega arith in (
      fits,
      strip_written c.args.entries.now c.args.starts.now c.write_group.new.out (take rows spots) (slice_index c.args.targets.now) rows c.loop-column.column
          width c.args.size c.args.shards.now c.loop-column.shards _ c.loop-column.invariant.1
          (λ row column within inside.
          c.write_group.ensures.written row column (omega (arith, within, listed)) inside
          ∙ ap (λ (l : List ℕ). row_sum c.args.entries.now l c.args.starts.now row column) (take_rest c.loop-column.shards c.loop-column.column))
          (λ row within.
          get_or-take rows spots row 0 within ∙ c.starts_from-rows.ensures.starts row (omega (arith, within, c.requires.rows)) ∙ step row)
          c.put_strip.ensures fits c.requires.distinct c.requires.read,
    )
