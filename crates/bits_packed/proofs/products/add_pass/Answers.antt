use Rattle.std.proofs.Common.{◌≡◌, ℕ, ap, arith, subst}
use Rattle.bits_packed.specs.BitMatrices.{IsStripAdded, sum_of_digits, word_of, words_for}
use Rattle.bits_packed.proofs.WordRanges.{strip_start, strip_step}
use Rattle.bits_packed.proofs.products.add_pass.Goals as goal

pub loop-row-init : goal.loop-row-init
loop-row-init c = strip_start

pub loop-row-preserved : goal.loop-row-preserved
loop-row-preserved c =
    strip_step c.requires.strip (sum_of_digits c.args.tables.now c.left_word-word.result 16)
    c.loop-row.invariant c.add_entries.ensures
    (λ w inside. ap (λ (x : ℕ). sum_of_digits c.args.tables.now x 16 w) c.left_word-word.ensures)

pub returns : goal.returns
returns c =
    let all : c.loop-row.row ≡ c.args.rows = omega arith in
    subst (λ (n : ℕ). IsStripAdded c.args.strip.words c.args.strip.start c.args.strip.width n
    (λ i w. sum_of_digits c.args.tables.now (word_of (words_for c.args.inner) c.args.left.now i c.args.pass) 16 w)
    c.args.target.now c.loop-row.target) all c.loop-row.invariant.added
