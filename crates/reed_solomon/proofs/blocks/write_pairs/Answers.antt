use Rattle.std.proofs.Common.{◌≡◌, ◌+◌, ◌-◌, ℕ, List, length, take, drop, slice_index, sym, ◌∙◌, ap, refl, subst, arith}
use Rattle.std.proofs.lemmas.List.{get_or-drop, get_or-take, length-drop, length-take-le, take_rest}
use Rattle.reed_solomon.specs.Tables.{FitRows, row_sum}
use Rattle.reed_solomon.proofs.GroupWriting.{rows_behind}
use Rattle.reed_solomon.proofs.RowWriting.{row_sum-behind, rows_held, written_at, written_by}
use Rattle.reed_solomon.proofs.blocks.write_pairs.Goals as goal

-- the places of the rows behind the first two
last_places : (rows : List ℕ) (i : ℕ) → slice_index (take (length rows - 2) (drop 2 rows)) i ≡ slice_index rows (2 + i)
last_places rows i = ap (λ (l : List ℕ). slice_index l i) (take_rest rows 2) ∙ get_or-drop 2 rows i 0

pub write_rows-requires : goal.write_rows-requires
write_rows-requires g c =
    let rows = c.args.rows.now in
    let sources = c.args.sources.now in
    rows_held sources.size (length c.args.out.now) (2 + g.row.N) 0 2 sources.entries.now sources.entries.now sources.shards.now sources.starts.now rows (take 2 rows)
    c.requires (omega arith) (omega (arith, c.requires.tables)) (length-take-le 2 rows (omega (arith, c.requires.named)))
    (λ i below. let here : 0 + i ≡ i = omega arith in get_or-take 2 rows i 0 below ∙ sym (ap (slice_index rows) here))

pub write_rows-requires-2 : goal.write_rows-requires-2
write_rows-requires-2 g c =
    let rows = c.args.rows.now in
    let sources = c.args.sources.now in
    let entries = sources.entries.now in
    let behind = take (length entries - 64) (drop 64 entries) in
    let last = take (length rows - 2) (drop 2 rows) in
    let long : length behind ≡ length entries - 64 = ap (λ (l : List ℕ). length l) (take_rest entries 64) ∙ length-drop 64 entries in
    let two : length last ≡ length rows - 2 = ap (λ (l : List ℕ). length l) (take_rest rows 2) ∙ length-drop 2 rows in
    subst (λ (room : ℕ). FitRows sources.size behind sources.shards.now sources.starts.now room last g.row.N) (sym c.write_rows.ensures.long)
    (rows_held sources.size (length c.args.out.now) (2 + g.row.N) 2 g.row.N entries behind sources.shards.now sources.starts.now rows last
    c.requires (omega arith) (omega (arith, long, c.requires.tables, c.requires.some_shards)) (omega (arith, two, c.requires.named))
    (λ i below. last_places rows i))

pub returns : goal.returns
returns g c =
    let rows = c.args.rows.now in
    let sources = c.args.sources.now in
    let entries = sources.entries.now in
    let sum = row_sum entries sources.shards.now sources.starts.now in
    rows_behind sum (slice_index rows) sources.size (2 + g.row.N) (λ s t less below. c.requires.apart t s less below) 2 2 g.row.N (2 + g.row.N) c.args.out.now _ _
    refl refl (omega arith)
    (written_at sum (slice_index (take 2 rows)) (slice_index rows) 2 sources.size _ _ c.write_rows.ensures (λ row below. get_or-take 2 rows row 0 below))
    (written_at _ (slice_index (take (length rows - 2) (drop 2 rows))) (λ row. slice_index rows (2 + row)) g.row.N sources.size _ _
    (written_by _ (λ row column. sum (2 + row) column) _ g.row.N sources.size _ _ c.write_rows-2.ensures
    (λ row column below inside.
    ap (λ (l : List ℕ). row_sum l sources.shards.now sources.starts.now row column) (take_rest entries 64)
    ∙ row_sum-behind entries sources.shards.now sources.starts.now 2 row column))
    (λ row below. last_places rows row))
