use Rattle.std.proofs.Common.{◌≡◌, ℕ, ◌+◌, ◌*◌, ◌/◌, ◌%◌, ◌∙◌, ap, ap₂, arith, refl, subst}
use Rattle.std.specs.Prelude.{slice_index}
use Rattle.std.specs.Int.{bit_at}
use Rattle.bits_packed.specs.BitMatrices.{IsStripAdded, bit_entry, word_of}
use Rattle.bits_packed.proofs.WordColumns.{word_added, word_before}
use Rattle.bits_packed.proofs.WordRanges.{strip_start, strip_step}
use Rattle.bits_packed.proofs.reduction.add_word_of.Goals as goal

pub place-own-requires : goal.place-own-requires
place-own-requires c =
    record { shape = c.requires.row.shape; row_within = c.requires.row.row_within; column_within = omega (arith, c.requires.row.column_within) }

pub loop-other-init : goal.loop-other-init
loop-other-init c =
    let words = c.args.shape.words in
    strip_start

pub place-at-requires : goal.place-at-requires
place-at-requires c =
    record {
      shape = c.loop-other.invariant.added.shape ∙ c.requires.row.shape;
      row_within = omega arith;
      column_within = omega (arith, c.requires.row.column_within);
    }

pub loop-other-preserved : goal.loop-other-preserved
loop-other-preserved c =
    let words = c.args.shape.words in
    let word = c.args.column / 64 in
    let other = c.loop-other.other in
    let first = c.args.matrix.now in
    let old = c.loop-other.matrix in
    let at = c.place-at.result in
    let value = bit_at (slice_index old at) (c.args.column % 64) * slice_index first c.place-own.result in
    let sums : ℕ → ℕ → ℕ = λ i w. bit_entry words first i c.args.column * word_of words first c.args.row word in
    strip_step (record { within = omega (arith, c.requires.row.column_within); narrow = omega arith }) (λ w. value) c.loop-other.invariant
    (word_added (other * words + word) at value old _ c.place-at.ensures.is
    (omega (arith, c.place-at.ensures.inside, c.requires.row.column_within)) refl)
    (λ w inside. ap₂ (λ (x y : ℕ). bit_at x (c.args.column % 64) * y)
    (ap (slice_index old) c.place-at.ensures.is ∙ word_before words word other sums first old c.loop-other.invariant)
    (ap (slice_index first) c.place-own.ensures.is))

pub returns : goal.returns
returns c =
    let words = c.args.shape.words in
    let all : c.loop-other.other ≡ c.args.shape.rows = omega arith in
    subst (λ (n : ℕ). IsStripAdded words (c.args.column / 64) 1 n
    (λ i w. bit_entry words c.args.matrix.now i c.args.column * word_of words c.args.matrix.now c.args.row (c.args.column / 64))
    c.args.matrix.now c.loop-other.matrix) all c.loop-other.invariant.added
