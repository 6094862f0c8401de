use Rattle.std.proofs.Common.{◌≡◌, inl, ℕ, ◌∙◌, ap, arith, subst}
use Rattle.std.specs.Prelude.{slice_index}
use Rattle.bits_packed.specs.BitMatrices.{IsStripAdded, sum_of_digits, word_of}
use Rattle.bits_packed.proofs.WordRanges.{strip_start, strip_step}
use Rattle.bits_packed.proofs.pending.add_own.Goals as goal

pub loop-row-init : goal.loop-row-init
loop-row-init c = strip_start

pub place-own-requires : goal.place-own-requires
place-own-requires c =
    record {
      shape = c.loop-row.invariant.added.shape ∙ c.requires.shape;
      row_within = omega arith;
      column_within = omega (arith, c.requires.word, c.requires.strip.within);
    }

pub loop-row-preserved : goal.loop-row-preserved
loop-row-preserved c =
    let words = c.args.strip.words in
    let digits = slice_index c.loop-row.matrix c.place-own.result in
    strip_step c.requires.strip (sum_of_digits c.args.tables.now digits 16)
    c.loop-row.invariant c.add_entries.ensures
    (λ w inside. ap (λ (x : ℕ). sum_of_digits c.args.tables.now x 16 w)
    (ap (slice_index c.loop-row.matrix) c.place-own.ensures.is
    ∙ c.loop-row.invariant.added.others c.loop-row.row c.args.word (omega (arith, c.requires.word, c.requires.strip.within))
    (inl c.requires.word)))

pub returns : goal.returns
returns c =
    let all : c.loop-row.row ≡ c.args.rows = omega arith in
    subst (λ (n : ℕ). IsStripAdded c.args.strip.words c.args.strip.start c.args.strip.width n
    (λ i w. sum_of_digits c.args.tables.now (word_of c.args.strip.words c.args.matrix.now i c.args.word) 16 w)
    c.args.matrix.now c.loop-row.matrix) all c.loop-row.invariant.added
