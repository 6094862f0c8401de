use Rattle.std.proofs.Common.{ℕ, ◌+◌, ◌*◌, ◌∙◌, add_assoc, ap, arith, sym}
use Rattle.std.specs.Prelude.{slice_index}
use Rattle.bits_packed.proofs.FourRowTables.{eight_zeros, row_behind, row_inside}
use Rattle.bits_packed.proofs.tables.strip_of_row.Goals as goal

pub returns-then-row-inner : goal.returns-then-row-inner
returns-then-row-inner c = λ w inside.
    c.words_from.ensures w inside
    ∙ ap (λ (p : ℕ). slice_index c.args.matrix.now (p + w)) c.first_word-first.ensures.is
    ∙ ap (slice_index c.args.matrix.now) (add_assoc (c.args.row * c.args.strip.words) c.args.strip.start w)
    ∙ sym (row_inside c.args.inner c.args.strip.words c.args.matrix.now c.args.row (c.args.strip.start + w) c.if-row-inner.true)

pub returns-else-row-inner : goal.returns-else-row-inner
returns-else-row-inner c = λ w inside.
    eight_zeros w (omega (arith, inside, c.requires.strip.narrow))
    ∙ sym (row_behind c.args.inner c.args.strip.words c.args.matrix.now c.args.row (c.args.strip.start + w) c.if-row-inner.false)
