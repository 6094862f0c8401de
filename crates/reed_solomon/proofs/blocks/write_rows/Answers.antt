use Rattle.std.proofs.Common.{◌≡◌, ◌+◌, length, slice_index, ◌∙◌, ap, arith}
use Rattle.reed_solomon.specs.Tables.{row_sum}
use Rattle.reed_solomon.proofs.RowWriting.{rows_held, written_at}
use Rattle.reed_solomon.proofs.blocks.write_rows.Goals as goal

pub add_all-requires : goal.add_all-requires
add_all-requires g c =
    rows_held c.args.sources.now.size (length c.args.out.now) g.row.N 0 g.row.N c.args.sources.now.entries.now c.args.sources.now.entries.now
    c.args.sources.now.shards.now c.args.sources.now.starts.now c.args.rows.now c.held_places-places.result c.requires (omega arith)
    c.requires.tables c.held_places-places.ensures.long c.held_places-places.ensures.same

pub returns : goal.returns
returns g c =
    written_at (row_sum c.args.sources.now.entries.now c.args.sources.now.shards.now c.args.sources.now.starts.now)
    (slice_index c.held_places-places.result) (slice_index c.args.rows.now) g.row.N c.args.sources.now.size c.args.out.now _ c.add_all.ensures
    (λ row below.
    let here : 0 + row ≡ row = omega arith in
    c.held_places-places.ensures.same row below ∙ ap (slice_index c.args.rows.now) here)
