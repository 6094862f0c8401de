use Rattle.std.proofs.Common.{◌≡◌, ℕ, ◌+◌, ◌*◌, ◌≤◌, ◌∙◌, arith, refl, subst}
use Rattle.std.proofs.lemmas.Grind.{div_ceil_times}
use Rattle.bits_packed.specs.BitMatrices.{partial_word, words_for}
use Rattle.bits_packed.proofs.FourRowTables.{product_bits}
use Rattle.bits_packed.proofs.WordRanges.{WordsSoFar, words_start, words_step}
use Rattle.bits_packed.proofs.products.multiply_words.Goals as goal

pub loop-index-init : goal.loop-index-init
loop-index-init c = (
  c.clear.ensures.shape,
  refl,
  words_start c.requires.shape c.clear.ensures,
)

pub strip_width-width-requires : goal.strip_width-width-requires
strip_width-width-requires c =
    let few = (div_ceil_times c.args.words 8 (omega arith)).1 in omega (arith, few, c.div_ceil-strips.ensures)

pub loop-index-preserved : goal.loop-index-preserved
loop-index-preserved c =
    let next : 8 * c.loop-index.index + 8 ≡ 8 * (c.loop-index.index + 1) = omega arith in
    let total : ℕ → ℕ → ℕ = λ i v. partial_word c.args.inner (words_for c.args.inner) c.args.words c.args.left.now c.args.right.now (64 * words_for c.args.inner) i v in (
      c.multiply_strip.ensures.sums.shape ∙ c.loop-index.invariant.0,
      c.multiply_strip.ensures.tables,
      subst (λ (n : ℕ). WordsSoFar c.args.words n c.args.rows total c.multiply_strip.new.target) next
          (words_step c.strip_width-width.ensures.strip c.strip_width-width.ensures.last
          c.loop-index.invariant.2 c.multiply_strip.ensures.sums),
    )

pub returns-clause-product : goal.returns-clause-product
returns-clause-product c =
    let enough = (div_ceil_times c.args.words 8 (omega arith)).0 in
    let last : c.args.words ≤ 8 * c.loop-index.index = omega (arith, enough, c.div_ceil-strips.ensures) in
    product_bits c.args.rows c.args.inner (words_for c.args.inner) c.args.words c.args.left.now c.args.right.now c.loop-index.target refl
    (λ i v inside within. c.loop-index.invariant.2.done i v inside within (omega (arith, within, last)))
