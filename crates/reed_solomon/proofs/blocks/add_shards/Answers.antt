use Rattle.std.proofs.Common.{◌+◌, ◌*◌, ◌≡◌, ◌<◌, ◌≤◌, ◌∙◌, ap, refl, slice_index, arith}
use Rattle.reed_solomon.specs.Tables.{row_sum_of}
use Rattle.reed_solomon.proofs.RowWriting.{column_kept, columns_written, is_later, is_zero, sum_so_far, written_by}
use Rattle.reed_solomon.proofs.blocks.add_shards.Goals as goal

pub block_sums-sums-requires : goal.block_sums-sums-requires
block_sums-sums-requires g c =
    let columns = 32 * c.loop-block.block in
    let place = slice_index c.args.rows.now in
    let fits : columns + 32 ≤ c.args.sources.now.size = omega (arith, c.loop-block-test.true) in (
      omega arith,
      (
        omega (arith, c.requires.range),
        (
          c.requires.two,
          (
            c.held_shards-held.ensures.entries,
            (
              c.held_shards-held.ensures.starts,
              (
                c.requires.fit.few_rows,
                (
                  (λ j below. omega (arith, c.requires.fit.inside j (omega (arith, below, c.requires.listed)), fits)),
                  (
                    c.block_so_far-so_far.ensures.count,
                    (
                      c.block_so_far-so_far.ensures.long,
                      (λ row lane within inside.
                          sum_so_far c.args.sources.now.entries.now c.args.sources.now.shards.now c.args.sources.now.starts.now c.args.from row (columns + lane) _
                          (slice_index c.loop-block.out (place row + (columns + lane)))
                          (λ first. c.block_so_far-so_far.ensures.zero row lane (is_zero c.args.from first) within inside)
                          (λ later. c.block_so_far-so_far.ensures.held row lane (is_later c.args.from later) within inside)
                          (λ later.
                          column_kept _ place g.row.N columns c.args.sources.now.size row (columns + lane) c.args.out.now c.loop-block.out c.loop-block.invariant (omega arith)
                          (omega (arith, inside, fits)) within c.requires.fit.apart
                          ∙ c.requires.begun row (columns + lane) within (omega (arith, inside, fits)) later)),
                    ),
                  ),
                ),
              ),
            ),
          ),
        ),
      ),
    )

pub loop-block-preserved : goal.loop-block-preserved
loop-block-preserved g c =
    let rows = slice_index c.args.rows.now in
    let columns = 32 * c.loop-block.block in
    let fits : columns + 32 ≤ c.args.sources.now.size = omega (arith, c.loop-block-test.true) in
    let next : 32 * (c.loop-block.block + 1) ≡ columns + 32 = omega arith in
    columns_written (row_sum_of c.args.until c.args.sources.now.entries.now c.args.sources.now.shards.now c.args.sources.now.starts.now) rows g.row.N columns 32
    (32 * (c.loop-block.block + 1)) c.args.sources.now.size c.args.out.now c.loop-block.out _ c.loop-block.invariant
    (written_by _ _ _ g.row.N 32 c.loop-block.out _ c.store_block.ensures
    (λ row lane within inside. c.block_sums-sums.ensures.sums row lane within inside))
    next fits c.requires.fit.apart

pub column_sums-sums-requires : goal.column_sums-sums-requires
column_sums-sums-requires g c =
    let column = c.loop-column.column in
    let inside : column < c.args.sources.now.size = c.loop-column-test.true in (
      omega (arith, c.requires.fit.few_rows),
      (
        c.requires.fit.few_shards,
        (
          omega (arith, c.requires.range),
          (
            c.requires.listed,
            (
              c.requires.fit.tables,
              (
                c.requires.fit.few_rows,
                (
                  c.requires.fit.named,
                  (
                    (λ j below. omega (arith, c.requires.fit.inside j below, inside)),
                    (
                      (λ row within. omega (arith, c.requires.fit.within row within, inside, c.loop-column.auto.out)),
                      (λ row within later.
                          column_kept _ (slice_index c.args.rows.now) g.row.N column c.args.sources.now.size row column c.args.out.now c.loop-column.out c.loop-column.invariant
                          (omega arith) inside within c.requires.fit.apart
                          ∙ c.requires.begun row column within inside later),
                    ),
                  ),
                ),
              ),
            ),
          ),
        ),
      ),
    )

pub loop-column-preserved : goal.loop-column-preserved
loop-column-preserved g c =
    let rows = slice_index c.args.rows.now in
    let column = c.loop-column.column in
    let fits : column + 1 ≤ c.args.sources.now.size = omega (arith, c.loop-column-test.true) in
    columns_written (row_sum_of c.args.until c.args.sources.now.entries.now c.args.sources.now.shards.now c.args.sources.now.starts.now) rows g.row.N column 1 (column + 1) c.args.sources.now.size
    c.args.out.now c.loop-column.out _ c.loop-column.invariant
    (written_by _ _ _ g.row.N 1 c.loop-column.out _ c.store_column.ensures
    (λ row lane within inside.
    let here : column ≡ column + lane = omega (arith, inside) in
    c.column_sums-sums.ensures row within
    ∙ ap (row_sum_of c.args.until c.args.sources.now.entries.now c.args.sources.now.shards.now c.args.sources.now.starts.now row) here))
    refl fits c.requires.fit.apart
