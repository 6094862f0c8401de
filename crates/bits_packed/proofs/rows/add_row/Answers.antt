use Rattle.std.proofs.Common.{◌⊎◌, ◌+◌, ◌-◌, ◌*◌, ◌/◌, ◌≤◌, ◌<◌, ℕ, arith, subst, sym}
use Rattle.bits_packed.proofs.BitRows.{row_added, rows_differ}
use Rattle.bits_packed.proofs.rows.add_row.Goals as goal

-- the word that has a column
within : (words column : ℕ) → column < 64 * words → column / 64 ≤ words
within words column inside = omega (arith, inside)

pub add_range-requires-clause-apart : goal.add_range-requires-clause-apart
add_range-requires-clause-apart c =
    let words = c.args.shape.words in
    let first = c.args.column / 64 in
    let own = c.place-own.ensures.is in
    let other = c.place-other.ensures.is in
    subst (λ (x : ℕ). (c.place-other.result + (words - first) ≤ x) ⊎ (x + (words - first) ≤ c.place-other.result)) (sym own)
    (subst (λ (y : ℕ). (y + (words - first) ≤ c.args.to * words + first) ⊎ (c.args.to * words + first + (words - first) ≤ y)) (sym other)
    (rows_differ words c.args.to c.args.from first c.requires.other (within words c.args.column c.requires.to.column_within)))

pub returns : goal.returns
returns c =
    row_added c.args.shape.words c.args.to c.args.from (c.args.column / 64) c.place-own.result c.place-other.result c.args.matrix.now
    c.add_range.new.words (within c.args.shape.words c.args.column c.requires.to.column_within) c.place-own.ensures.is
    c.place-other.ensures.is c.add_range.ensures (λ j before. c.requires.zeros j (omega (arith, before)))
