use Rattle.std.proofs.Common.{◌≡◌, ℕ, ◌+◌, ◌*◌, ◌∙◌, ap, arith, refl, subst}
use Rattle.std.specs.Prelude.{bit_and, slice_index}
use Rattle.bits_packed.specs.BitMatrices.{IsStripAdded, word_of}
use Rattle.bits_packed.proofs.WordColumns.{word_added, word_before}
use Rattle.bits_packed.proofs.WordRanges.{strip_start, strip_step}
use Rattle.bits_packed.proofs.pending.clear_bits.Goals as goal

pub loop-row-init : goal.loop-row-init
loop-row-init c = strip_start

pub place-at-requires : goal.place-at-requires
place-at-requires c =
    record {
      shape = c.loop-row.invariant.added.shape ∙ c.requires.shape;
      row_within = omega arith;
      column_within = omega (arith, c.requires.word);
    }

pub loop-row-preserved : goal.loop-row-preserved
loop-row-preserved c =
    let words = c.args.shape.words in
    let row = c.loop-row.row in
    let old = c.loop-row.matrix in
    let at = c.place-at.result in
    let sums : ℕ → ℕ → ℕ = λ i w. bit_and (word_of words c.args.matrix.now i c.args.word) c.args.mask in
    strip_step (record { within = omega (arith, c.requires.word); narrow = omega arith })
    (λ w. bit_and (slice_index old at) c.args.mask) c.loop-row.invariant
    (word_added (row * words + c.args.word) at (bit_and (slice_index old at) c.args.mask) old _ c.place-at.ensures.is
    (omega (arith, c.place-at.ensures.inside, c.requires.word)) refl)
    (λ w inside. ap (λ (x : ℕ). bit_and x c.args.mask)
    (ap (slice_index old) c.place-at.ensures.is
    ∙ word_before words c.args.word row sums c.args.matrix.now old c.loop-row.invariant))

pub returns : goal.returns
returns c =
    let all : c.loop-row.row ≡ c.args.shape.rows = omega arith in
    subst (λ (n : ℕ). IsStripAdded c.args.shape.words c.args.word 1 n
    (λ i w. bit_and (word_of c.args.shape.words c.args.matrix.now i c.args.word) c.args.mask) c.args.matrix.now c.loop-row.matrix) all
    c.loop-row.invariant.added
