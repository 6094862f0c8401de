use Rattle.std.proofs.Common.{◌≡◌, ℕ, ◌+◌, ◌*◌, ◌<◌, ◌∙◌, arith, subst}
use Rattle.std.specs.Prelude.{slice_index}
use Rattle.std.proofs.lemmas.Grind.{div_ceil_times}
use Rattle.bits_packed.specs.BitMatrices.{IsStripAdded, partial_word, row_word, words_for}
use Rattle.bits_packed.proofs.FourRowTables.{pass_more, row_from}
use Rattle.bits_packed.proofs.WordRanges.{strip_more, strip_none}
use Rattle.bits_packed.proofs.products.multiply_strip.Goals as goal
use Rattle.field_base.proofs.BasisSums.{sum_below-none}

pub loop-pass-init : goal.loop-pass-init
loop-pass-init c = (
  c.requires.tables,
  strip_none (λ i w. sum_below-none _),
)

pub rows_from-places-requires : goal.rows_from-places-requires
rows_from-places-requires c =
    let few = (div_ceil_times c.args.inner 64 (omega arith)).1 in omega (arith, few, c.div_ceil-passes.ensures)

pub add_pass-requires-clause-pass : goal.add_pass-requires-clause-pass
add_pass-requires-clause-pass c = subst (λ (n : ℕ). c.loop-pass.pass < n) c.div_ceil-passes.ensures c.loop-pass-test.true

pub loop-pass-preserved : goal.loop-pass-preserved
loop-pass-preserved c =
    let strip = c.args.strip in
    let pass = c.loop-pass.pass in
    let left_words = words_for c.args.inner in (
      c.write_tables.ensures.tables,
      strip_more (λ i w below inside.
          pass_more c.args.inner left_words strip.words c.args.left.now c.args.right.now pass i (strip.start + w) strip.width w
          (λ k v. row_word c.args.inner strip.words c.args.right.now (slice_index c.rows_from-places.result k) (strip.start + v))
          c.write_tables.new.tables c.write_tables.ensures.entries inside
          (λ k short. row_from c.args.inner strip.words (64 * pass) k (slice_index c.rows_from-places.result k) c.args.right.now (strip.start + w)
          (c.rows_from-places.ensures k short)))
          c.loop-pass.invariant.1 c.add_pass.ensures,
    )

pub returns-clause-sums : goal.returns-clause-sums
returns-clause-sums c =
    let last : c.loop-pass.pass ≡ c.div_ceil-passes.result = omega arith in
    subst (λ (n : ℕ). IsStripAdded c.args.strip.words c.args.strip.start c.args.strip.width c.args.rows
    (λ i w. partial_word c.args.inner (words_for c.args.inner) c.args.strip.words c.args.left.now c.args.right.now (64 * n) i (c.args.strip.start + w))
    c.args.target.now c.loop-pass.target) (last ∙ c.div_ceil-passes.ensures) c.loop-pass.invariant.1
