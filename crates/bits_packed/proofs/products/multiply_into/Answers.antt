use Rattle.std.proofs.Common.{ℕ, ◌*◌, ◌∙◌, ap, subst, sym, arith}
use Rattle.field_base.specs.Tower.{tower_mul}
use Rattle.field_slices.specs.Matrices.{IsMatrixProduct}
use Rattle.bits_packed.specs.BitMatrices.{bit_entry, words_for}
use Rattle.bits_packed.proofs.products.multiply_into.Goals as goal

pub multiply_words-requires-clause-right : goal.multiply_words-requires-clause-right
multiply_words-requires-clause-right c = c.requires.right ∙ ap (λ (n : ℕ). c.args.inner * n) (sym c.div_ceil-words.ensures)

pub multiply_words-requires-clause-shape : goal.multiply_words-requires-clause-shape
multiply_words-requires-clause-shape c = c.requires.shape ∙ ap (λ (n : ℕ). c.args.rows * n) (sym c.div_ceil-words.ensures)

pub returns-clause-product : goal.returns-clause-product
returns-clause-product c =
    subst (λ (n : ℕ). IsMatrixProduct (tower_mul 0) c.args.rows c.args.inner (64 * n) (bit_entry (words_for c.args.inner) c.args.left.now)
    (bit_entry n c.args.right.now) (bit_entry n c.multiply_words.new.target)) c.div_ceil-words.ensures c.multiply_words.ensures.product

pub returns-then-rows-eq0-clause-product : goal.returns-then-rows-eq0-clause-product
returns-then-rows-eq0-clause-product c = λ i j inside within. absurd (omega (arith, inside, c.if-rows-eq0.true))
