use Rattle.std.proofs.Common.{ℕ, ◌+◌, ◌*◌, ◌∙◌, ap, arith}
use Rattle.std.specs.Prelude.{slice_index}
use Rattle.bits_packed.specs.BitMatrices.{row_word}
use Rattle.bits_packed.proofs.FourRowTables.{entries_doubled, first_entry}
use Rattle.bits_packed.proofs.WordRanges.{range_keeps}
use Rattle.bits_packed.proofs.tables.write_table.Goals as goal

pub returns-clause-tables : goal.returns-clause-tables
returns-clause-tables c =
    c.double_entries-4.ensures.shape ∙ c.double_entries-3.ensures.shape ∙ c.double_entries-2.ensures.shape ∙ c.double_entries.ensures.shape
    ∙ c.clear.ensures.shape ∙ c.requires.tables

pub returns-clause-entries : goal.returns-clause-entries
returns-clause-entries c =
    let width = c.args.strip.width in
    let narrow = c.requires.strip.narrow in
    let first = 128 * c.args.group in
    let rows : ℕ → ℕ → ℕ = λ k w. row_word c.args.inner c.args.strip.words c.args.matrix.now (slice_index c.args.places.now (4 * c.args.group + k)) (c.args.strip.start + w) in
    let start = first_entry width rows first c.args.tables.now c.clear.new.words narrow c.clear.ensures in
    let one = entries_doubled width 0 rows first c.strip_of_row-first_row.result c.clear.new.words c.double_entries.new.tables (omega arith) narrow
    (λ w inside. c.strip_of_row-first_row.ensures w inside
    ∙ ap (λ (k : ℕ). row_word c.args.inner c.args.strip.words c.args.matrix.now (slice_index c.args.places.now k) (c.args.strip.start + w)) (omega arith))
    start c.double_entries.ensures in
    let two = entries_doubled width 1 rows first c.strip_of_row-second_row.result c.double_entries.new.tables c.double_entries-2.new.tables (omega arith) narrow
    c.strip_of_row-second_row.ensures one c.double_entries-2.ensures in
    let three = entries_doubled width 2 rows first c.strip_of_row-third_row.result c.double_entries-2.new.tables c.double_entries-3.new.tables (omega arith) narrow
    c.strip_of_row-third_row.ensures two c.double_entries-3.ensures in
    entries_doubled width 3 rows first c.strip_of_row-fourth_row.result c.double_entries-3.new.tables c.double_entries-4.new.tables (omega arith) narrow
    c.strip_of_row-fourth_row.ensures three c.double_entries-4.ensures

pub returns-clause-others : goal.returns-clause-others
returns-clause-others c = λ p outside.
    let first = 128 * c.args.group in
    range_keeps first 128 (first + 64) 64 _ _ _ (omega arith) (omega arith) c.double_entries-4.ensures p outside
    ∙ range_keeps first 128 (first + 32) 32 _ _ _ (omega arith) (omega arith) c.double_entries-3.ensures p outside
    ∙ range_keeps first 128 (first + 16) 16 _ _ _ (omega arith) (omega arith) c.double_entries-2.ensures p outside
    ∙ range_keeps first 128 (first + 8) 8 _ _ _ (omega arith) (omega arith) c.double_entries.ensures p outside
    ∙ range_keeps first 128 first 8 _ _ _ (omega arith) (omega arith) c.clear.ensures p outside
