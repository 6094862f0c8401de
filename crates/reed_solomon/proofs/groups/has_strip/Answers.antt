use Rattle.std.proofs.Common.{◌≡◌, ◌+◌, ◌-◌, ◌*◌, false, take, drop, refl, sym, ◌∙◌, arith, rules}
use Rattle.std.proofs.lemmas.Bool.{false≢true}
use Rattle.reed_solomon.proofs.StripRows.{row_equal, rows_more}
use Rattle.reed_solomon.proofs.groups.has_strip.Goals as goal

pub returns-then-ne : goal.returns-then-ne
returns-then-ne c =
    let size = c.args.size in
    let width = c.args.width in
    let row = c.loop-row.row in
    let first = c.args.begin + row * size in
    let within = c.loop-row-test.true in
    let own = take (first + width - first) (drop first c.args.shards.now) in
    let other = take (2048 * row + width - 2048 * row) (drop (2048 * row) c.args.strip.now) in
    let told : own ≡ other → c.ne.result ≡ false = search rules in (
      (λ wrong. absurd (false≢true wrong)),
      λ all. absurd (false≢true (sym (told (row_equal c.args.count size c.args.begin width c.args.shards.now c.args.strip.now row first (2048 * row) _ _
          refl refl (omega arith) (omega arith) (c.requires.room row within) (omega (arith, c.requires.rows, c.requires.narrow, within)) within all))
          ∙ c.if-ne.true)),
    )

pub loop-row-preserved : goal.loop-row-preserved
loop-row-preserved c =
    let size = c.args.size in
    let width = c.args.width in
    let row = c.loop-row.row in
    let first = c.args.begin + row * size in
    let own = take (first + width - first) (drop first c.args.shards.now) in
    let other = take (2048 * row + width - 2048 * row) (drop (2048 * row) c.args.strip.now) in
    let told : c.ne.result ≡ false → own ≡ other = search rules in
    rows_more c.args.count size c.args.begin width c.args.shards.now c.args.strip.now row first (2048 * row) _ _ refl refl (omega arith) (omega arith)
    (told c.if-ne.false) c.loop-row.invariant
