use Rattle.std.proofs.Common.{◌≡◌, ◌+◌, ◌-◌, ◌*◌, ◌<◌, ◌≤◌, ℕ, List, length, take, drop, slice_index, sym, ◌∙◌, ap, arith}
use Rattle.std.proofs.lemmas.Bool.{false≢true}
use Rattle.std.proofs.lemmas.List.{get_or-take, length-take-le, take_rest}
use Rattle.reed_solomon.specs.Tables.{row_sum}
use Rattle.reed_solomon.proofs.StripRows.{columns_more, strip_equal}
use Rattle.reed_solomon.proofs.groups.matches_group.Goals as goal

-- where the rows of a strip begin
spots_are : (count : ℕ) (spots : List ℕ) → count ≤ 4 → ((i : ℕ) → i < 4 → slice_index spots i ≡ (0 + i) * 2048)
    → (row : ℕ) → row < count → slice_index (take count spots) row ≡ 2048 * row
spots_are count spots few starts row within =
    get_or-take count spots row 0 within ∙ starts row (omega (arith, within, few)) ∙ step
  where
    step : (0 + row) * 2048 ≡ 2048 * row
    step = omega arith

-- what is written holds of the columns of all shards
sums_are : (entries starts strip spots shards : List ℕ) (count columns width : ℕ) → count ≤ length spots
    → ((row c : ℕ) → row < length (take count spots) → c < width → slice_index strip (slice_index (take count spots) row + c)
    ≡ row_sum entries (take (length shards - columns) (drop columns shards)) starts row c)
    → (row c : ℕ) → row < count → c < width → slice_index strip (slice_index (take count spots) row + c) ≡ row_sum entries (drop columns shards) starts row c
sums_are entries starts strip spots shards count columns width few sums row c within inside =
    sums row c (omega (arith, within, length-take-le count spots few)) inside
    ∙ ap (λ (l : List ℕ). row_sum entries l starts row c) (take_rest shards columns)

pub has_strip-requires-clause-room : goal.has_strip-requires-clause-room
has_strip-requires-clause-room c = λ row within.
    omega (arith, c.requires.room row within, c.strip_width-width.ensures, c.loop-column-test.true)

pub loop-column-preserved : goal.loop-column-preserved
loop-column-preserved c =
    let spots = c.starts_from-rows.result in
    let count = c.args.count in
    let column = c.loop-column.column in
    let width = c.strip_width-width.result in
    let shards = c.args.sources.now.shards.now in
    let few : count ≤ length spots = omega (arith, c.requires.rows, c.starts_from-rows.ensures.long) in (
      omega (arith, c.strip_width-width.ensures, c.loop-column-test.true),
      columns_more c.args.sources.now.entries.now c.args.sources.now.starts.now c.write_group.new.out (take count spots) count c.args.size c.args.begin column width shards
          (sums_are c.args.sources.now.entries.now c.args.sources.now.starts.now c.write_group.new.out spots shards count column width few c.write_group.ensures.written)
          (spots_are count spots c.requires.rows c.starts_from-rows.ensures.starts)
          (c.has_strip.ensures.0 c.if-not-has_strip.false) c.loop-column.invariant.1,
    )

pub returns-then-not-has_strip : goal.returns-then-not-has_strip
returns-then-not-has_strip c =
    let spots = c.starts_from-rows.result in
    let count = c.args.count in
    let column = c.loop-column.column in
    let width = c.strip_width-width.result in
    let shards = c.args.sources.now.shards.now in
    let few : count ≤ length spots = omega (arith, c.requires.rows, c.starts_from-rows.ensures.long) in
    let fits : column + width ≤ c.args.sources.now.size = omega (arith, c.strip_width-width.ensures, c.loop-column-test.true) in (
      (λ wrong. absurd (false≢true wrong)),
      λ all. absurd (false≢true (sym c.if-not-has_strip.true
          ∙ c.has_strip.ensures.1 (strip_equal c.args.sources.now.entries.now c.args.sources.now.starts.now c.write_group.new.out (take count spots) count c.args.size c.args.begin
          column width shards
          (sums_are c.args.sources.now.entries.now c.args.sources.now.starts.now c.write_group.new.out spots shards count column width few c.write_group.ensures.written)
          (spots_are count spots c.requires.rows c.starts_from-rows.ensures.starts) c.args.sources.now.size fits all))),
    )
