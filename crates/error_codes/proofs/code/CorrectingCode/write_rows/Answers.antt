use Rattle.std.proofs.Common.{◌*◌, ◌+◌, ◌-◌, ◌≡◌, ◌<◌, ℕ, length, slice_index, ◌∙◌, ap, arith}
use borrow.Rule.Slice.PartMut.{mid_of}
use Rattle.field_base.specs.Powers.{power}
use Rattle.reed_solomon.specs.ByteFields.{byte_times}
use Rattle.error_codes.specs.Correcting.{code_value}
use Rattle.error_codes.specs.Interleaved.{interleaved_word}
use Rattle.error_codes.proofs.WordColumns.{part-length, row-more, row_inside, word-at}
use Rattle.error_codes.proofs.code.CorrectingCode.write_rows.Goals as goal

pub loop-m-preserved : goal.loop-m-preserved
loop-m-preserved c =
    let code = c.args.self.now in
    let times = byte_times code.field in
    let depth = c.args.depth in
    let n = code.word_length in
    let checks = n - code.dimension in
    let m = c.loop-m.m in
    let words = c.args.words.now in
    let gap = m * depth + depth - m * depth in
    let before : m < checks = c.loop-m-test.true in
    let room = row_inside depth m checks before in
    let gap_is : gap ≡ depth = omega arith in
    let lent : length (mid_of (m * depth) gap c.loop-m.values) ≡ depth =
    part-length (m * depth) gap c.loop-m.values (omega (arith, room, gap_is, c.requires.room, c.loop-m.invariant.0)) ∙ gap_is in
    row-more depth m gap
    (λ k d. code_value times n (slice_index (interleaved_word n depth words d)) (power 1 times code.root (code.first_root + k)))
    c.args.values.now c.loop-m.values c.values_in_row.new.values gap_is (omega (arith, room, c.requires.room))
    (c.values_in_row.ensures.long ∙ lent)
    (λ d below.
    c.values_in_row.ensures.values d (omega (arith, below, lent))
    ∙ ap (λ (size : ℕ). code_value times n (slice_index (interleaved_word n size words d)) (slice_index code.roots m)) lent
    ∙ ap (code_value times n (slice_index (interleaved_word n depth words d))) (code.roots_are m before))
    c.loop-m.invariant

pub returns-clause-values : goal.returns-clause-values
returns-clause-values c = λ d m below row.
    let checks = c.args.self.now.word_length - c.args.self.now.dimension in
    word-at checks c.args.depth c.loop-m.values d m row
    ∙ c.loop-m.invariant.1 m d (omega (arith, row, c.loop-m-test.false)) below
